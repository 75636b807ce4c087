use Rattle.std.proofs.Common.{◌≡◌, map, take}
use Rattle.std.specs.BTreeMap.{get}
use Rattle.std.specs.Ordering.{nat_cmp}
use Rattle.std.specs.List.{filter}
use Rattle.grid_formulas.specs.Changes.{cell_of}
use Rattle.grid_formulas.specs.Turns.{differs}
use Rattle.grid_formulas.proofs.changes.changes.Given as goal

abbrev pub invariant-places : goal.invariant-places
invariant-places l =
    l.cells.items ≡ map cell_of (filter (differs l.old l.grid (get nat_cmp l.nodes) (get nat_cmp l.values)) (take l.place-index l.places))
