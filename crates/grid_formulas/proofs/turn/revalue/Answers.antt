use Rattle.std.specs.BTreeMap.{get}
use Rattle.std.specs.Ordering.{nat_cmp}
use Rattle.std.proofs.Common.{List, ℕ, subst}
use Rattle.grid_formulas.specs.Sheets.{Rests}
use Rattle.grid_formulas.proofs.Turned.{turn_ends}
use Rattle.grid_formulas.proofs.turn.revalue.Goals as goal

pub returns : goal.returns
returns c =
    let rows = c.args.grid.now in
    let nodes = get nat_cmp c.args.nodes.now in
    let first = get nat_cmp c.in_ok-values.values in
    let mid = get nat_cmp c.sweep.new.after in
    let last = get nat_cmp c.settle.new.after in
    let places = c.in_ok-values.places.items in
    let rests : Rests rows nodes places mid last = subst (λ (l : List ℕ). Rests rows nodes l mid last) c.deref-3.ensures.value c.in_ok-settle.ensures in
    turn_ends c.args.old.now rows nodes (get nat_cmp c.args.readers.now) c.args.place first mid last places c.requires
    c.in_ok-values.ensures.marked c.in_ok-values.ensures.here c.in_ok-values.ensures.closed c.in_ok-_left.ensures.keys c.in_ok-_left.ensures.kept rests
