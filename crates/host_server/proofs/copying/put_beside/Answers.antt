use Rattle.host_server.proofs.CopyLemmas.{allowed_tells, refused_tells, blocked_tells, nothing_tells}
use Rattle.host_server.proofs.Keeping.{keeps_both, keeps_none}
use Rattle.host_server.proofs.copying.put_beside.Goals as goal

pub returns-in_default-clause-tells : goal.returns-in_default-clause-tells
returns-in_default-clause-tells g c = nothing_tells g.C.Caller.always c.args.desk.now c.args.copying (g.C.Caller.sight c.args.caller.now) _

pub returns-then-ruling-eq200-clause-tells : goal.returns-then-ruling-eq200-clause-tells
returns-then-ruling-eq200-clause-tells g c =
    allowed_tells g.C.Caller.always c.args.desk.now c.args.copying (g.C.Caller.sight c.args.caller.now) (g.C.Caller.sight c.look.new.caller) (g.C.Caller.sight c.go_on.new.caller)
    c.in-Ok.name c.in-Ok.ensures c.in-Ruled.ruling c.in-Ruled.back c.go_on.result c.in-Ruled.ensures.calls c.if-ruling-eq200.true c.go_on.ensures.tells

pub returns-in-Ruled-clause-tells : goal.returns-in-Ruled-clause-tells
returns-in-Ruled-clause-tells g c =
    refused_tells g.C.Caller.always c.args.desk.now c.args.copying (g.C.Caller.sight c.args.caller.now) (g.C.Caller.sight c.look.new.caller)
    c.in-Ruled.ruling c.in-Ruled.back c.ruling_told.result c.in-Ruled.ensures.calls c.if-ruling-eq200.false c.ruling_told.ensures

pub returns-in-Full-clause-tells : goal.returns-in-Full-clause-tells
returns-in-Full-clause-tells g c =
    blocked_tells g.C.Caller.always c.args.desk.now c.args.copying (g.C.Caller.sight c.args.caller.now) (g.C.Caller.sight c.look.new.caller)
    c.journal_full.result c.in-Full.ensures.calls c.journal_full.ensures

pub returns-in_default-clause-telling : goal.returns-in_default-clause-telling
returns-in_default-clause-telling g c = keeps_none g.C.Caller.loses (g.C.Caller.telling c.args.caller.now) (g.C.Caller.sight c.args.caller.now)

pub returns-then-ruling-eq200-clause-telling : goal.returns-then-ruling-eq200-clause-telling
returns-then-ruling-eq200-clause-telling g c =
    keeps_both g.C.Caller.loses (g.C.Caller.telling c.args.caller.now) (g.C.Caller.telling c.look.new.caller) (g.C.Caller.telling c.go_on.new.caller)
    (g.C.Caller.sight c.args.caller.now) (g.C.Caller.sight c.look.new.caller) (g.C.Caller.sight c.go_on.new.caller) c.look.ensures.telling c.go_on.ensures.telling
