use Rattle.std.proofs.Common.{◌≡◌, ℕ, ◌<◌, true}
use Rattle.std.specs.BTreeMap.{get}
use Rattle.std.specs.Ordering.{nat_cmp}
use Rattle.std.specs.Prelude.{slice_index}
use Rattle.grid_formulas.specs.Readers.{Grows, is_kept}
use Rattle.grid_formulas.proofs.readers.keep_at.Given as goal

abbrev pub invariant-nodes : goal.invariant-nodes
invariant-nodes l =
    Grows (get nat_cmp l.initial.readers) (get nat_cmp l.readers)
    × ((k : ℕ) → k < l.node-index → is_kept (get nat_cmp l.readers) (slice_index l.nodes k) l.reader ≡ true)
