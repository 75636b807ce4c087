use Rattle.std.proofs.Common.{refl}
use Rattle.wopi_program.proofs.AuditLemmas.{found_takes}
use Rattle.wopi_program.proofs.contents.look_up.Goals as goal

pub returns-in-Ok-clause-takes : goal.returns-in-Ok-clause-takes
returns-in-Ok-clause-takes g c =
    found_takes _ c.args.name.now c.args.version c.in-Ok.found c.give_out.result c.args.outside.now _ c.in-Ok.ensures.found c.give_out.ensures.found
    (c.in-Ok.ensures.fine (λ is. absurd (cc is))) c.give_out.ensures.cause refl
