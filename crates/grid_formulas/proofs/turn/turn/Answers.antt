use Rattle.std.specs.BTreeMap.{get}
use Rattle.std.specs.Ordering.{nat_cmp}
use Rattle.std.proofs.Common.{◌∙◌, ℕ, List, ap, map}
use Rattle.std.specs.BTreeMap.{keys}
use Rattle.std.specs.List.{filter}
use Rattle.grid_formulas.specs.Changes.{cell_of}
use Rattle.grid_formulas.specs.Turns.{differs}
use Rattle.grid_formulas.proofs.Done.{keys_have}
use Rattle.grid_formulas.proofs.Listed.{lists_changes}
use Rattle.grid_formulas.proofs.turn.turn.Goals as goal

pub returns-in-Ok-clause-cells : goal.returns-in-Ok-clause-cells
returns-in-Ok-clause-cells c =
    let old = c.args.old.now in
    let new = c.args.grid.now in
    let nodes = get nat_cmp c.args.nodes.now in
    let after = get nat_cmp c.in_ok-values.values in
    c.in_ok-cells.ensures
    ∙ ap (λ (l : List ℕ). map cell_of (filter (differs old new nodes after) l)) (c.deref.ensures.value ∙ c.in_ok-places.ensures.keys)
    ∙ lists_changes old new nodes (get nat_cmp c.args.readers.now) c.args.place after (keys c.in_ok-values.values) c.requires.turning c.in_ok-values.ensures
    c.places_of_values.ensures.sorted (keys_have c.in_ok-values.values)
