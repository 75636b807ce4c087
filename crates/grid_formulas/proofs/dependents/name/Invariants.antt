use Rattle.std.proofs.Common.{◌≡◌, false, take}
use Rattle.grid_formulas.specs.Places.{has, reads_of}
use Rattle.grid_formulas.proofs.dependents.name.Given as goal

abbrev pub invariant-steps : goal.invariant-steps
invariant-steps l = has (reads_of (take l.step-index l.steps)) l.place ≡ false
