use Rattle.std.proofs.Common.{false, refl, ◌∙◌, subst, ◌≡◌}
use Rattle.std.specs.Prelude.{IfOk, Err}
use Rattle.wopi_headers.specs.declared.answer.Answer.{Answer}
use Rattle.wopi_model.specs.declared.calls.Call.{Call}
use Rattle.host_server.specs.Calls.{TellsCall}
use Rattle.host_server.proofs.AskLemmas.{info_same, act_tells}
use Rattle.host_server.proofs.CallLemmas.{makes_calls, full_calls}
use Rattle.host_server.proofs.DeedLemmas.{does_nothing}
use Rattle.host_server.proofs.TellLemmas.{ruling_of_call, ruled_tells, full_tells, tells_nothing}
use Rattle.host_server.proofs.Keeping.{keeps_made, keeps_refused}
use Rattle.host_server.proofs.answering.make_and_tell.Goals as goal

pub returns-in-Ok-clause-tells : goal.returns-in-Ok-clause-tells
returns-in-Ok-clause-tells g c origin last =
    let old = g.C.Caller.sight c.args.caller.now in
    let new = g.C.Caller.sight c.call_at.new.self in
    let call : Call = record { name = c.copy-name.result; token = c.args.token; act = c.act_of-act.result } in
    let other = info_same c.args.ask.now.op c.args.body c.act_of-act.result c.act_of-act.ensures ∙ c.requires.other in
    let told = ruling_of_call call c.call_at.new.carried.ruling other in
    let calls = makes_calls g.C.Caller.always old new call c.args.moment _ c.in-Ok.ensures.made c.call_at.ensures.frame
    (g.met.C.Caller.has_floor c.args.caller.now) (g.met.C.Caller.is_always c.args.caller.now) (g.met.C.Caller.is_always c.call_at.new.self) in
    act_tells false origin last c.args.ask.now c.args.token c.args.body c.args.moment g.C.Caller.always old new c.copy-name.result c.args.token c.act_of-act.result
    c.copy-name.ensures refl c.act_of-act.ensures c.ruling_told.result
    (ruled_tells g.C.Caller.always old new origin last call c.args.moment c.call_at.new.carried.ruling _ c.ruling_told.result calls
    (subst (λ (other : Answer). IfOk c.ruling_told.result (λ a. a ≡ other)) told c.ruling_told.ensures))

pub returns-in-Err-Full-clause-tells : goal.returns-in-Err-Full-clause-tells
returns-in-Err-Full-clause-tells g c origin last =
    let old = g.C.Caller.sight c.args.caller.now in
    let new = g.C.Caller.sight c.call_at.new.self in
    let call : Call = record { name = c.copy-name.result; token = c.args.token; act = c.act_of-act.result } in
    let calls = full_calls g.C.Caller.always old new call c.args.moment c.call_at.new.call (rw c.in-Err-Full.field-0-is at c.in-Err-Full.ensures.refused) c.call_at.ensures.frame
    (g.met.C.Caller.has_floor c.args.caller.now) (g.met.C.Caller.is_always c.args.caller.now) (g.met.C.Caller.is_always c.call_at.new.self) in
    act_tells false origin last c.args.ask.now c.args.token c.args.body c.args.moment g.C.Caller.always old new c.copy-name.result c.args.token c.act_of-act.result
    c.copy-name.ensures refl c.act_of-act.ensures c.journal_full.result
    (full_tells g.C.Caller.always old new origin last call c.args.moment false c.journal_full.result calls c.journal_full.ensures)

pub returns-in-Err-Memory-clause-tells : goal.returns-in-Err-Memory-clause-tells
returns-in-Err-Memory-clause-tells g c origin last =
    let old = g.C.Caller.sight c.args.caller.now in
    let new = g.C.Caller.sight c.call_at.new.self in
    let call : Call = record { name = c.copy-name.result; token = c.args.token; act = c.act_of-act.result } in
    act_tells false origin last c.args.ask.now c.args.token c.args.body c.args.moment g.C.Caller.always old new c.copy-name.result c.args.token c.act_of-act.result
    c.copy-name.ensures refl c.act_of-act.ensures (Err (record {}))
    (tells_nothing g.C.Caller.always old new (TellsCall false origin last call c.args.moment) _
    (does_nothing g.C.Caller.always old new call c.args.moment _ (rw c.in-Err-Memory.field-0-is at c.in-Err-Memory.ensures.refused) c.call_at.ensures.frame))

pub returns-clause-tells : goal.returns-clause-tells
returns-clause-tells g c origin last =
    let old = g.C.Caller.sight c.args.caller.now in
    let new = g.C.Caller.sight c.call_at.new.self in
    let call : Call = record { name = c.copy-name.result; token = c.args.token; act = c.act_of-act.result } in
    act_tells false origin last c.args.ask.now c.args.token c.args.body c.args.moment g.C.Caller.always old new c.copy-name.result c.args.token c.act_of-act.result
    c.copy-name.ensures refl c.act_of-act.ensures (Err (record {}))
    (tells_nothing g.C.Caller.always old new (TellsCall false origin last call c.args.moment) _
    (does_nothing g.C.Caller.always old new call c.args.moment _ (rw c.in-Err-Lost.field-0-is at c.in-Err-Lost.ensures.refused) c.call_at.ensures.frame))

pub returns-in-Ok-clause-telling : goal.returns-in-Ok-clause-telling
returns-in-Ok-clause-telling g c =
    keeps_made g.C.Caller.loses (g.C.Caller.telling c.args.caller.now) (g.C.Caller.telling c.call_at.new.self) _ (g.C.Caller.sight c.args.caller.now) (g.C.Caller.sight c.call_at.new.self)
    c.call_at.ensures.telling (g.C.Caller.loses_is c.call_at.new.self _) _ c.args.moment _ c.in-Ok.ensures.made c.in-Ok.ensures.tells

pub returns-in-Err-Full-clause-telling : goal.returns-in-Err-Full-clause-telling
returns-in-Err-Full-clause-telling g c =
    keeps_refused g.C.Caller.loses (g.C.Caller.telling c.args.caller.now) (g.C.Caller.telling c.call_at.new.self) _ (g.C.Caller.sight c.args.caller.now) (g.C.Caller.sight c.call_at.new.self)
    c.call_at.ensures.telling (g.C.Caller.loses_is c.call_at.new.self _) _ c.args.moment _ (rw c.in-Err-Full.field-0-is at c.in-Err-Full.ensures.refused)

pub returns-in-Err-Memory-clause-telling : goal.returns-in-Err-Memory-clause-telling
returns-in-Err-Memory-clause-telling g c =
    keeps_refused g.C.Caller.loses (g.C.Caller.telling c.args.caller.now) (g.C.Caller.telling c.call_at.new.self) _ (g.C.Caller.sight c.args.caller.now) (g.C.Caller.sight c.call_at.new.self)
    c.call_at.ensures.telling (g.C.Caller.loses_is c.call_at.new.self _) _ c.args.moment _ (rw c.in-Err-Memory.field-0-is at c.in-Err-Memory.ensures.refused)

pub returns-clause-telling : goal.returns-clause-telling
returns-clause-telling g c =
    keeps_refused g.C.Caller.loses (g.C.Caller.telling c.args.caller.now) (g.C.Caller.telling c.call_at.new.self) _ (g.C.Caller.sight c.args.caller.now) (g.C.Caller.sight c.call_at.new.self)
    c.call_at.ensures.telling (g.C.Caller.loses_is c.call_at.new.self _) _ c.args.moment _ (rw c.in-Err-Lost.field-0-is at c.in-Err-Lost.ensures.refused)
