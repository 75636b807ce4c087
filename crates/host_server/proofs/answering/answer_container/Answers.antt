use Rattle.std.proofs.Common.{[], subst, arith}
use Rattle.std.proofs.lemmas.Result.{err_from_is_err_and}
use Rattle.wopi_headers.specs.declared.container.ContainerAsk.{ContainerAsk}
use Rattle.host_server.specs.Answering.{Contained, container_asked_with}
use Rattle.host_server.specs.Calls.{Tells}
use Rattle.host_server.proofs.ContainerLemmas.{container_tells}
use Rattle.host_server.proofs.DeedLemmas.{Does-nil}
use Rattle.host_server.proofs.TellLemmas.{tells_nothing}
use Rattle.host_server.proofs.Keeping.{keeps_listed, keeps_none}
use Rattle.host_server.proofs.answering.answer_container.Goals as goal

pub returns-in_err-judged-clause-tells : goal.returns-in_err-judged-clause-tells
returns-in_err-judged-clause-tells g c =
    let sight = g.C.Caller.sight c.args.caller.now in
    let p = err_from_is_err_and c.from_residual.result c.from_residual.ensures.1 in
    rw p.1 (tells_nothing g.C.Caller.always sight sight (Contained c.args.desk.now (container_asked_with c.args.editor c.args.fields.now c.args.ask) c.args.moment) p.0
    (Does-nil g.C.Caller.always sight))

pub returns-clause-tells : goal.returns-clause-tells
returns-clause-tells g c =
    let caller = c.container_answer.new.lister in
    let some = g.met.C.Lister.homes caller [] in
    let old = g.C.Caller.sight c.args.caller.now in
    let new = g.C.Caller.sight caller in
    subst (λ (ask : ContainerAsk). Tells (Contained c.args.desk.now ask c.args.moment) g.C.Caller.always old new c.container_answer.result) c.in_ok-judged.ensures
    (container_tells c.args.desk.now c.in_ok-judged.judged c.args.moment g.C.Lister.shard_count g.C.Caller.always old new
    (omega (arith, some)) (g.met.C.Lister.homes caller) (g.met.C.Lister.reaches caller) (g.met.C.Caller.has_floor c.args.caller.now)
    (g.met.C.Caller.is_always c.args.caller.now) (g.met.C.Caller.is_always caller) c.container_answer.ensures.looks c.container_answer.result
    c.container_answer.ensures.answered)

pub returns-in_err-judged-clause-telling : goal.returns-in_err-judged-clause-telling
returns-in_err-judged-clause-telling g c = keeps_none g.C.Caller.loses (g.C.Caller.telling c.args.caller.now) (g.C.Caller.sight c.args.caller.now)

pub returns-clause-telling : goal.returns-clause-telling
returns-clause-telling g c =
    keeps_listed g.C.Caller.loses (g.C.Caller.telling c.args.caller.now) (g.C.Caller.telling c.container_answer.new.lister) (g.C.Caller.sight c.args.caller.now) (g.C.Caller.sight c.container_answer.new.lister)
    c.container_answer.ensures.telling c.container_answer.ensures.looks
