use Rattle.std.proofs.Common.{◌≡◌, ◌⊎◌, ℕ, ◌<◌, true}
use Rattle.std.specs.BTreeMap.{get}
use Rattle.std.specs.Ordering.{nat_cmp}
use Rattle.grid_formulas.specs.Marks.{MarksMore, reads_at}
use Rattle.grid_formulas.specs.Places.{has}
use Rattle.grid_formulas.specs.Sheets.{is_in}
use Rattle.grid_formulas.proofs.dependents.mark_some.Given as goal

-- each reader is left, or marked if it reads the place
abbrev pub invariant-readers : goal.invariant-readers
invariant-readers l = record {
  more : MarksMore (get nat_cmp l.initial.after) l.initial.places.items (get nat_cmp l.after) l.places.items;
  done : (p : ℕ) → has l.readers.keys p ≡ true → (has l.reader-iterator p ≡ true) ⊎ (reads_at (get nat_cmp l.nodes) p l.place ≡ true → p < 102400000 → is_in (get nat_cmp l.after) p ≡ true);
}
