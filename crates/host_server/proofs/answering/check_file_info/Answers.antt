use Rattle.std.proofs.Common.{◌≡◌, false, sym, refl, subst}
use Rattle.std.specs.Prelude.{IfOk, Err, None}
use Rattle.wopi_headers.specs.declared.answer.Answer.{Answer}
use Rattle.wopi_model.specs.declared.calls.Call.{Call}
use Rattle.wopi_model.specs.declared.calls.Act.TheVariants.{Info}
use Rattle.host_server.specs.Calls.{TellsCall}
use Rattle.host_server.proofs.AskLemmas.{info_act, act_tells}
use Rattle.host_server.proofs.TellLemmas.{info_of_call, ruled_tells, full_tells, tells_nothing}
use Rattle.host_server.proofs.PageLemmas.{is_told}
use Rattle.host_server.proofs.answering.check_file_info.Goals as goal

pub info_told-requires : goal.info_told-requires
info_told-requires g c = is_told None tt

pub returns-in-Ruled-clause-tells : goal.returns-in-Ruled-clause-tells
returns-in-Ruled-clause-tells g c origin last =
    let call : Call = record { name = c.copy-name.result; token = c.copy-shown.result; act = Info } in
    let told = info_of_call call c.in-Ruled.ruling c.args.ask.now.file c.args.token (sym c.copy-name.ensures) (sym c.copy-shown.ensures) refl in
    let old = g.C.Caller.sight c.args.caller.now in
    let new = g.C.Caller.sight c.make.new.caller in
    act_tells false origin last c.args.ask.now c.args.token c.args.body c.args.moment g.C.Caller.always old new c.copy-name.result c.copy-shown.result Info
    c.copy-name.ensures c.copy-shown.ensures (info_act c.args.ask.now.op c.args.body c.requires.info) c.info_told.result
    (ruled_tells g.C.Caller.always old new origin last call c.args.moment c.in-Ruled.ruling _ c.info_told.result c.in-Ruled.ensures.calls
    (subst (λ (other : Answer). IfOk c.info_told.result (λ a. a ≡ other)) told c.info_told.ensures))

pub returns-in-Full-clause-tells : goal.returns-in-Full-clause-tells
returns-in-Full-clause-tells g c origin last =
    let call : Call = record { name = c.copy-name.result; token = c.copy-shown.result; act = Info } in
    let old = g.C.Caller.sight c.args.caller.now in
    let new = g.C.Caller.sight c.make.new.caller in
    act_tells false origin last c.args.ask.now c.args.token c.args.body c.args.moment g.C.Caller.always old new c.copy-name.result c.copy-shown.result Info
    c.copy-name.ensures c.copy-shown.ensures (info_act c.args.ask.now.op c.args.body c.requires.info) c.journal_full.result
    (full_tells g.C.Caller.always old new origin last call c.args.moment false c.journal_full.result c.in-Full.ensures.calls c.journal_full.ensures)

pub returns-clause-tells : goal.returns-clause-tells
returns-clause-tells g c origin last =
    let call : Call = record { name = c.copy-name.result; token = c.copy-shown.result; act = Info } in
    let old = g.C.Caller.sight c.args.caller.now in
    let new = g.C.Caller.sight c.make.new.caller in
    act_tells false origin last c.args.ask.now c.args.token c.args.body c.args.moment g.C.Caller.always old new c.copy-name.result c.copy-shown.result Info
    c.copy-name.ensures c.copy-shown.ensures (info_act c.args.ask.now.op c.args.body c.requires.info) (Err (record {}))
    (tells_nothing g.C.Caller.always old new (TellsCall false origin last call c.args.moment) _ c.in-Memory.ensures.calls)
