use Rattle.std.specs.BTreeMap.{get}
use Rattle.std.specs.Ordering.{nat_cmp}
use Rattle.grid_formulas.specs.Sheets.{Sweeps}
use Rattle.grid_formulas.proofs.settle.sweep.Given as goal

abbrev pub invariant-places : goal.invariant-places
invariant-places l = Sweeps l.grid (get nat_cmp l.nodes) l.order l.place-index (get nat_cmp l.initial.after) (get nat_cmp l.after) l.left.items
