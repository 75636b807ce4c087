use Rattle.std.proofs.Common.{◌≡◌, ◌-◌, true}
use Rattle.std.specs.BTreeMap.{get}
use Rattle.std.specs.Ordering.{nat_cmp}
use Rattle.grid_formulas.specs.Marks.{AreMarked}
use Rattle.grid_formulas.specs.Sheets.{is_in}
use Rattle.grid_formulas.proofs.Marked.{Follows}
use Rattle.grid_formulas.proofs.dependents.dependents.Given as goal

abbrev pub invariant-places : goal.invariant-places
invariant-places l = record {
  marked : AreMarked (get nat_cmp l.after) l.places.items;
  here : is_in (get nat_cmp l.after) l.place ≡ true;
  follows : Follows (get nat_cmp l.nodes) (get nat_cmp l.readers) l.places.items l.done (get nat_cmp l.after);
}

-- no list has so many places
abbrev pub decreases-places : goal.decreases-places
decreases-places l = 18446744073709551616 - l.done
