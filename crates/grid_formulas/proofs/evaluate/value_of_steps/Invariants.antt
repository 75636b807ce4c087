use Rattle.std.proofs.Common.{◌≡◌, [], take}
use Rattle.std.specs.BTreeMap.{get}
use Rattle.std.specs.List.{fold}
use Rattle.std.specs.Ordering.{nat_cmp}
use Rattle.grid_formulas.specs.Sheets.{values_over}
use Rattle.grid_formulas.specs.Values.{after_step}
use Rattle.grid_formulas.proofs.evaluate.value_of_steps.Given as goal

abbrev pub invariant-steps : goal.invariant-steps
invariant-steps l =
    l.stack.items ≡ fold (after_step (values_over l.grid (get nat_cmp l.nodes) (get nat_cmp l.after))) [] (take l.step-index l.steps)
