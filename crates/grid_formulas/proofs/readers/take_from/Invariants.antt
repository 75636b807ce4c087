use Rattle.std.proofs.Common.{◌≡◌, ◌≢◌, ◌⊎◌, ℕ, true}
use Rattle.std.specs.BTreeMap.{get}
use Rattle.std.specs.BTreeSet.{contains}
use Rattle.std.specs.Ordering.{nat_cmp}
use Rattle.grid_formulas.specs.Readers.{is_kept}
use Rattle.grid_formulas.proofs.readers.take_from.Given as goal

abbrev pub invariant-nodes : goal.invariant-nodes
invariant-nodes l =
    (n p : ℕ) → (p ≢ l.reader) ⊎ (contains nat_cmp l.stays n ≡ true) → is_kept (get nat_cmp l.initial.readers) n p ≡ true → is_kept (get nat_cmp l.readers) n p ≡ true
