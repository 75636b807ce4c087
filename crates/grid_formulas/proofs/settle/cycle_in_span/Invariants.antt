use Rattle.std.proofs.Common.{◌≡◌, map, false}
use Rattle.std.specs.BTreeMap.{get}
use Rattle.std.specs.List.{range_with_len}
use Rattle.std.specs.Ordering.{nat_cmp}
use Rattle.grid_formulas.specs.Places.{nth_of}
use Rattle.grid_formulas.specs.Sheets.{any_cycle, values_over}
use Rattle.grid_formulas.proofs.settle.cycle_in_span.Given as goal

abbrev pub invariant-cells : goal.invariant-cells
invariant-cells l =
    any_cycle (values_over l.grid (get nat_cmp l.nodes) (get nat_cmp l.after)) (map (nth_of l.span) (range_with_len 0 l.n)) ≡ false
