use Rattle.std.proofs.Common.{inl, inr, refl, sym}
use Rattle.wopi_program.proofs.serving.write_end.Goals as goal

pub returns-in-Ok-clause-wrote : goal.returns-in-Ok-clause-wrote
returns-in-Ok-clause-wrote g c = inl (c.in-Ok.ensures.bytes, sym c.end_after.ensures.value, c.in-Ok.ensures.bounded)

pub returns-in-Err-clause-wrote : goal.returns-in-Err-clause-wrote
returns-in-Err-clause-wrote g c = inr (c.in-Err.ensures.bytes, refl)
