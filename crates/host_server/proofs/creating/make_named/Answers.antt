use Rattle.host_server.proofs.TryLemmas.{ruled_attempts}
use Rattle.host_server.proofs.creating.make_named.Goals as goal

pub returns-in-Ruled-clause-attempts : goal.returns-in-Ruled-clause-attempts
returns-in-Ruled-clause-attempts g c =
    ruled_attempts g.C.Caller.always (g.C.Caller.sight c.args.caller.now) (g.C.Caller.sight c.make.new.caller) c.args.name c.args.token c.args.overwrite
    c.args.contents c.args.moment c.in-Ruled.ruling c.in-Ruled.back c.judged.result c.judged.ensures c.in-Ruled.ensures.calls
