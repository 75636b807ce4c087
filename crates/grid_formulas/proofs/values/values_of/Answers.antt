use Rattle.std.proofs.Common.{◌∙◌, subst, List, ℕ}
use Rattle.std.specs.BTreeMap.{get, keys}
use Rattle.std.specs.Ordering.{nat_cmp}
use Rattle.grid_formulas.specs.Sheets.{Rests, StartsOver}
use Rattle.grid_formulas.proofs.Sheeted.{ends_stuck, starts_settled}
use Rattle.grid_formulas.proofs.values.values_of.Goals as goal

pub returns-clause-settled : goal.returns-clause-settled
returns-clause-settled c =
    let nodes = c.args.nodes.now in
    let first = get nat_cmp c.in_ok-values.values in
    let starts : StartsOver (keys nodes) first = subst (λ (l : List ℕ). StartsOver l first) (c.deref.ensures.value ∙ c.in_ok-places.ensures) c.in_ok-values.ensures in
    c.in_ok-settle.ensures.kept (c.in_ok-_left.ensures.kept (starts_settled c.args.grid.now nodes first c.requires.known starts))

pub returns-clause-stuck : goal.returns-clause-stuck
returns-clause-stuck c =
    let nodes = c.args.nodes.now in
    let first = get nat_cmp c.in_ok-values.values in
    let starts : StartsOver (keys nodes) first = subst (λ (l : List ℕ). StartsOver l first) (c.deref.ensures.value ∙ c.in_ok-places.ensures) c.in_ok-values.ensures in
    let rests = subst (λ (l : List ℕ). Rests c.args.grid.now (get nat_cmp nodes) l (get nat_cmp c.sweep.new.after) (get nat_cmp c.settle.new.after)) (c.deref-4.ensures.value ∙ c.in_ok-places.ensures) c.in_ok-settle.ensures in
    ends_stuck c.args.grid.now nodes first (get nat_cmp c.sweep.new.after) (get nat_cmp c.settle.new.after) c.requires.known starts c.in_ok-_left.ensures.keys rests
