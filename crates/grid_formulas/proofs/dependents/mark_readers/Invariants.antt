use Rattle.std.specs.BTreeMap.{get}
use Rattle.std.specs.Ordering.{nat_cmp}
use Rattle.grid_formulas.specs.Marks.{MarksMore}
use Rattle.grid_formulas.proofs.Marked.{Climbs}
use Rattle.grid_formulas.proofs.dependents.mark_readers.Given as goal

abbrev pub invariant-levels : goal.invariant-levels
invariant-levels l = record {
  more : MarksMore (get nat_cmp l.initial.after) l.initial.places.items (get nat_cmp l.after) l.places.items;
  climbs : Climbs (get nat_cmp l.nodes) (get nat_cmp l.readers) l.place l.node (get nat_cmp l.after);
}

abbrev pub decreases-levels : goal.decreases-levels
decreases-levels l = l.node
