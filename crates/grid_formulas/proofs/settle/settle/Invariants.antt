use Rattle.std.specs.BTreeMap.{get}
use Rattle.std.specs.Ordering.{nat_cmp}
use Rattle.grid_formulas.proofs.Looks.{Sweeping}
use Rattle.grid_formulas.proofs.settle.settle.Given as goal

abbrev pub invariant-sweeps : goal.invariant-sweeps
invariant-sweeps l = Sweeping l.grid (get nat_cmp l.nodes) l.order (get nat_cmp l.fn.after) (get nat_cmp l.after) l.looked l.left.items

-- each sweep looks at fewer cells than the one before
abbrev pub decreases-sweeps : goal.decreases-sweeps
decreases-sweeps l = l.looked
