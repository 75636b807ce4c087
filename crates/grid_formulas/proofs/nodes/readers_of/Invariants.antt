use Rattle.std.proofs.Common.{ℕ, ◌<◌}
use Rattle.std.specs.BTreeMap.{get}
use Rattle.std.specs.Ordering.{nat_cmp}
use Rattle.std.specs.Prelude.{slice_index}
use Rattle.grid_formulas.specs.Marks.{IsFound}
use Rattle.grid_formulas.proofs.nodes.readers_of.Given as goal

abbrev pub invariant-places : goal.invariant-places
invariant-places l = (k : ℕ) → k < l.place-index → IsFound (get nat_cmp l.nodes) (get nat_cmp l.readers) (slice_index l.places k)
