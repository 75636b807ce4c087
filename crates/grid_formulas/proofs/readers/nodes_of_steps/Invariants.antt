use Rattle.std.proofs.Common.{take}
use Rattle.grid_formulas.specs.Places.{reads_of}
use Rattle.grid_formulas.specs.Readers.{AreBelow}
use Rattle.grid_formulas.proofs.readers.nodes_of_steps.Given as goal

abbrev pub invariant-steps : goal.invariant-steps
invariant-steps l = AreBelow l.nodes.items (reads_of (take l.step-index l.steps))
