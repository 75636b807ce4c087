use Rattle.std.proofs.Common.{◌∙◌}
use Rattle.wopi_program.proofs.CtokenLemmas.{CtokenEnds-told}
use Rattle.wopi_program.proofs.ctoken.run_ctoken.Goals as goal

pub returns-in-Ok : goal.returns-in-Ok
returns-in-Ok g c =
    CtokenEnds-told _ _ _ _ _ c.in-Some.keys c.in-Some.token _ c.in-Some.ensures.some (c.deref.ensures.value ∙ c.in-Ok.ensures) c.tell.ensures
