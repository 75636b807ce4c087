use Rattle.std.proofs.Common.{◌≡◌, map}
use Rattle.std.specs.BTreeMap.{get}
use Rattle.std.specs.List.{range_with_len}
use Rattle.std.specs.Ordering.{nat_cmp}
use Rattle.grid_formulas.specs.Places.{nth_of}
use Rattle.grid_formulas.specs.Sheets.{values_over}
use Rattle.grid_formulas.specs.Values.{sum_of}
use Rattle.grid_formulas.proofs.evaluate.sum_of.Given as goal

abbrev pub invariant-cells : goal.invariant-cells
invariant-cells l =
    l.total ≡ sum_of (values_over l.grid (get nat_cmp l.nodes) (get nat_cmp l.after)) (map (nth_of l.span) (range_with_len 0 l.n))
