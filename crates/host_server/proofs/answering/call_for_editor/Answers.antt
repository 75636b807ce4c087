use Rattle.std.proofs.Common.{◌≡◌, true, refl, sym, ap, ◌∙◌, subst}
use Rattle.std.specs.Prelude.{Err, IfOk, IsSome, is_some}
use Rattle.wopi_headers.specs.declared.answer.Answer.{Answer}
use Rattle.wopi_model.specs.declared.calls.Call.{Call}
use Rattle.host_server.specs.Calls.{TellsCall}
use Rattle.host_server.specs.Asking.{asks_info, asks_save}
use Rattle.host_server.specs.Known.{suite_of}
use Rattle.host_server.proofs.AskLemmas.{act_tells, held_where_late, info_same, late_of_saves, save_same}
use Rattle.host_server.proofs.CallLemmas.{full_calls}
use Rattle.host_server.proofs.DeedLemmas.{call_made, does_make_for, does_nothing}
use Rattle.host_server.proofs.TellLemmas.{full_tells, made_for_tells, told_of_parts, tells_nothing}
use Rattle.host_server.proofs.Keeping.{keeps_made, keeps_refused}
use Rattle.host_server.proofs.answering.call_for_editor.Goals as goal

pub returns-in-Ok-clause-tells : goal.returns-in-Ok-clause-tells
returns-in-Ok-clause-tells g c =
    let old = g.C.Caller.sight c.args.caller.now in
    let new = g.C.Caller.sight c.call_for_editor.new.self in
    let call : Call = record { name = c.copy-name.result; token = c.copy-shown.result; act = c.act_of-act.result } in
    let makes = c.in-Ok.ensures.made in
    let one = call_made old.pass call c.moment_known.result c.args.moment makes.late c.in-Ok.told in
    let lates : is_some c.in-Ok.told.late ≡ makes.late =
    ap is_some makes.held ∙ held_where_late call.act c.moment_known.result _ _ makes.late makes.exactly in
    let infos = sym (info_same c.args.ask.now.op c.args.body call.act c.act_of-act.ensures) in
    let saves = sym (save_same c.args.ask.now.op c.args.body call.act c.act_of-act.ensures) in
    let parts = told_of_parts c.args.desk.now.origin c.suite_of.result (suite_of c.args.last) one (is_some c.in-Ok.told.late) (asks_info c.args.ask.now.op) (asks_save c.args.ask.now.op)
    c.args.ask.now.file c.args.token c.suite_of.ensures lates infos saves (sym c.copy-name.ensures) (sym c.copy-shown.ensures) in
    act_tells true c.args.desk.now.origin c.args.last c.args.ask.now c.args.token c.args.body c.args.moment g.C.Caller.always old new c.copy-name.result c.copy-shown.result c.act_of-act.result
    c.copy-name.ensures c.copy-shown.ensures c.act_of-act.ensures c.told_by.result
    (made_for_tells g.C.Caller.always old new c.args.desk.now.origin c.args.last call c.args.moment one c.told_by.result
    (record {
      call_is = refl;
      known_is = c.moment_known.ensures;
      moment_is = refl;
      made = refl;
      of_saves = λ late. let found = late_of_saves call.act c.moment_known.result _ _ makes.late makes.exactly late in (found.0, subst IsSome c.moment_known.ensures found.1);
    })
    (does_make_for g.C.Caller.always old new call c.moment_known.result c.args.moment c.in-Ok.told makes c.call_for_editor.ensures.frame
    (g.met.C.Caller.has_floor c.args.caller.now) (g.met.C.Caller.is_always c.args.caller.now) (g.met.C.Caller.is_always c.call_for_editor.new.self))
    (subst (λ (other : Answer). IfOk c.told_by.result (λ a. a ≡ other)) parts c.told_by.ensures))

pub returns-in-Err-Full-clause-tells : goal.returns-in-Err-Full-clause-tells
returns-in-Err-Full-clause-tells g c =
    let old = g.C.Caller.sight c.args.caller.now in
    let new = g.C.Caller.sight c.call_for_editor.new.self in
    let call : Call = record { name = c.copy-name.result; token = c.copy-shown.result; act = c.act_of-act.result } in
    let calls = full_calls g.C.Caller.always old new call c.args.moment _ (rw c.in-Err-Full.field-0-is at c.in-Err-Full.ensures.refused) c.call_for_editor.ensures.frame
    (g.met.C.Caller.has_floor c.args.caller.now) (g.met.C.Caller.is_always c.args.caller.now) (g.met.C.Caller.is_always c.call_for_editor.new.self) in
    act_tells true c.args.desk.now.origin c.args.last c.args.ask.now c.args.token c.args.body c.args.moment g.C.Caller.always old new c.copy-name.result c.copy-shown.result c.act_of-act.result
    c.copy-name.ensures c.copy-shown.ensures c.act_of-act.ensures c.journal_full.result
    (full_tells g.C.Caller.always old new c.args.desk.now.origin c.args.last call c.args.moment true c.journal_full.result calls c.journal_full.ensures)

pub returns-in-Err-Memory-clause-tells : goal.returns-in-Err-Memory-clause-tells
returns-in-Err-Memory-clause-tells g c =
    let old = g.C.Caller.sight c.args.caller.now in
    let new = g.C.Caller.sight c.call_for_editor.new.self in
    let call : Call = record { name = c.copy-name.result; token = c.copy-shown.result; act = c.act_of-act.result } in
    act_tells true c.args.desk.now.origin c.args.last c.args.ask.now c.args.token c.args.body c.args.moment g.C.Caller.always old new c.copy-name.result c.copy-shown.result c.act_of-act.result
    c.copy-name.ensures c.copy-shown.ensures c.act_of-act.ensures (Err (record {}))
    (tells_nothing g.C.Caller.always old new (TellsCall true c.args.desk.now.origin c.args.last call c.args.moment) _
    (does_nothing g.C.Caller.always old new call c.args.moment _ c.in-Err-Memory.ensures.refused c.call_for_editor.ensures.frame))

pub returns-clause-tells : goal.returns-clause-tells
returns-clause-tells g c =
    let old = g.C.Caller.sight c.args.caller.now in
    let new = g.C.Caller.sight c.call_for_editor.new.self in
    let call : Call = record { name = c.copy-name.result; token = c.copy-shown.result; act = c.act_of-act.result } in
    act_tells true c.args.desk.now.origin c.args.last c.args.ask.now c.args.token c.args.body c.args.moment g.C.Caller.always old new c.copy-name.result c.copy-shown.result c.act_of-act.result
    c.copy-name.ensures c.copy-shown.ensures c.act_of-act.ensures (Err (record {}))
    (tells_nothing g.C.Caller.always old new (TellsCall true c.args.desk.now.origin c.args.last call c.args.moment) _
    (does_nothing g.C.Caller.always old new call c.args.moment _ c.in-Err-Lost.ensures.refused c.call_for_editor.ensures.frame))

pub returns-in-Ok-clause-telling : goal.returns-in-Ok-clause-telling
returns-in-Ok-clause-telling g c =
    keeps_made g.C.Caller.loses (g.C.Caller.telling c.args.caller.now) (g.C.Caller.telling c.call_for_editor.new.self) _ (g.C.Caller.sight c.args.caller.now) (g.C.Caller.sight c.call_for_editor.new.self)
    c.call_for_editor.ensures.telling (g.C.Caller.loses_is c.call_for_editor.new.self _) _ c.args.moment _ c.in-Ok.ensures.made.made c.in-Ok.ensures.tells

pub returns-in-Err-Full-clause-telling : goal.returns-in-Err-Full-clause-telling
returns-in-Err-Full-clause-telling g c =
    keeps_refused g.C.Caller.loses (g.C.Caller.telling c.args.caller.now) (g.C.Caller.telling c.call_for_editor.new.self) _ (g.C.Caller.sight c.args.caller.now) (g.C.Caller.sight c.call_for_editor.new.self)
    c.call_for_editor.ensures.telling (g.C.Caller.loses_is c.call_for_editor.new.self _) _ c.args.moment _ c.in-Err-Full.ensures.refused

pub returns-in-Err-Memory-clause-telling : goal.returns-in-Err-Memory-clause-telling
returns-in-Err-Memory-clause-telling g c =
    keeps_refused g.C.Caller.loses (g.C.Caller.telling c.args.caller.now) (g.C.Caller.telling c.call_for_editor.new.self) _ (g.C.Caller.sight c.args.caller.now) (g.C.Caller.sight c.call_for_editor.new.self)
    c.call_for_editor.ensures.telling (g.C.Caller.loses_is c.call_for_editor.new.self _) _ c.args.moment _ c.in-Err-Memory.ensures.refused

pub returns-clause-telling : goal.returns-clause-telling
returns-clause-telling g c =
    keeps_refused g.C.Caller.loses (g.C.Caller.telling c.args.caller.now) (g.C.Caller.telling c.call_for_editor.new.self) _ (g.C.Caller.sight c.args.caller.now) (g.C.Caller.sight c.call_for_editor.new.self)
    c.call_for_editor.ensures.telling (g.C.Caller.loses_is c.call_for_editor.new.self _) _ c.args.moment _ c.in-Err-Lost.ensures.refused
