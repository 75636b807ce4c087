use Rattle.std.proofs.Common.{◌≡◌, take, false}
use Rattle.std.specs.BTreeMap.{get}
use Rattle.std.specs.Ordering.{nat_cmp}
use Rattle.grid_formulas.specs.Places.{reads_of}
use Rattle.grid_formulas.specs.Sheets.{any_cycle, values_over}
use Rattle.grid_formulas.proofs.settle.cycle_in_steps.Given as goal

abbrev pub invariant-steps : goal.invariant-steps
invariant-steps l =
    any_cycle (values_over l.grid (get nat_cmp l.nodes) (get nat_cmp l.after)) (reads_of (take l.step-index l.steps)) ≡ false
