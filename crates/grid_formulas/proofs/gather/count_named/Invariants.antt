use Rattle.std.proofs.Common.{◌≡◌, ◌^◌, ◌-◌, length, min, take}
use Rattle.grid_formulas.specs.Places.{reads_of}
use Rattle.grid_formulas.proofs.gather.count_named.Given as goal

abbrev pub invariant-steps : goal.invariant-steps
invariant-steps l = l.total ≡ min (length (reads_of (take l.step-index l.steps))) (2 ^ 64 - 1)
