use Rattle.std.proofs.Common.{◌≡◌, ℕ, cond, take}
use Rattle.std.specs.BTreeMap.{get}
use Rattle.std.specs.Ordering.{nat_cmp}
use Rattle.grid_formulas.specs.Places.{has}
use Rattle.grid_formulas.specs.Turns.{with_value}
use Rattle.grid_formulas.proofs.nodes.take_over.Given as goal

abbrev pub invariant-places : goal.invariant-places
invariant-places l =
    (q : ℕ) → get nat_cmp l.nodes q ≡ cond (has (take l.place-index l.places) q) (with_value (get nat_cmp l.values q) (get nat_cmp l.initial.nodes q)) (get nat_cmp l.initial.nodes q)
