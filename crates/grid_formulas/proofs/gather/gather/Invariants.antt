use Rattle.std.proofs.Common.{◌*◌}
use Rattle.std.specs.BTreeMap.{get}
use Rattle.std.specs.Ordering.{nat_cmp}
use Rattle.grid_formulas.specs.Places.{text_at}
use Rattle.grid_formulas.specs.Sheets.{Gathers}
use Rattle.grid_formulas.proofs.gather.gather.Given as goal

abbrev pub invariant-rows : goal.invariant-rows
invariant-rows l = Gathers (text_at l.grid) (get nat_cmp l.nodes) (l.row * 1024) l.count
