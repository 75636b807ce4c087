use Rattle.host_server.proofs.CopyLemmas.{bad_tells}
use Rattle.host_server.proofs.Keeping.{keeps_none}
use Rattle.host_server.proofs.copying.go_on.Goals as goal

pub returns-in-None-clause-tells : goal.returns-in-None-clause-tells
returns-in-None-clause-tells g c =
    bad_tells g.C.Caller.always c.args.desk.now c.args.copying (g.C.Caller.sight c.args.caller.now) _ (rw c.in-None.is at c.requires.asked) c.status_only.ensures

pub returns-in-None-clause-telling : goal.returns-in-None-clause-telling
returns-in-None-clause-telling g c = keeps_none g.C.Caller.loses (g.C.Caller.telling c.args.caller.now) (g.C.Caller.sight c.args.caller.now)
