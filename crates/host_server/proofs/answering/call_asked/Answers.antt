use Rattle.std.proofs.Common.{◌≡◌, Bool, true, Option, sym, ap, ◌∙◌, subst}
use Rattle.host_server.specs.declared.knowing.LastSave.{LastSave}
use Rattle.host_server.specs.Asking.{TellsAct}
use Rattle.host_server.specs.Known.{last_known}
use Rattle.host_server.proofs.answering.call_asked.Goals as goal

pub returns-then-editor-clause-tells : goal.returns-then-editor-clause-tells
returns-then-editor-clause-tells g c =
    let tells = c.call_for_editor.ensures.tells in
    let known = subst (λ (last : Option LastSave). TellsAct true c.args.desk.now.origin last c.args.ask.now c.args.token c.args.body c.args.moment g.C.Caller.always
    (g.C.Caller.sight c.args.caller.now) (g.C.Caller.sight c.call_for_editor.new.caller) c.call_for_editor.result) c.last_known-last.ensures tells in
    subst (λ (editor : Bool). TellsAct editor c.args.desk.now.origin (last_known c.args.editor c.args.fields.now) c.args.ask.now c.args.token c.args.body c.args.moment g.C.Caller.always
    (g.C.Caller.sight c.args.caller.now) (g.C.Caller.sight c.call_for_editor.new.caller) c.call_for_editor.result) (sym c.if-editor.true) known

pub returns-then-is_info-clause-tells : goal.returns-then-is_info-clause-tells
returns-then-is_info-clause-tells g c =
    subst (λ (editor : Bool). TellsAct editor c.args.desk.now.origin (last_known c.args.editor c.args.fields.now) c.args.ask.now c.args.token c.args.body c.args.moment g.C.Caller.always
    (g.C.Caller.sight c.args.caller.now) (g.C.Caller.sight c.check_file_info.new.caller) c.check_file_info.result) (sym c.if-editor.false)
    (c.check_file_info.ensures.tells c.args.desk.now.origin (last_known c.args.editor c.args.fields.now))

pub returns-clause-tells : goal.returns-clause-tells
returns-clause-tells g c =
    subst (λ (editor : Bool). TellsAct editor c.args.desk.now.origin (last_known c.args.editor c.args.fields.now) c.args.ask.now c.args.token c.args.body c.args.moment g.C.Caller.always
    (g.C.Caller.sight c.args.caller.now) (g.C.Caller.sight c.make_and_tell.new.caller) c.make_and_tell.result) (sym c.if-editor.false)
    (c.make_and_tell.ensures.tells c.args.desk.now.origin (last_known c.args.editor c.args.fields.now))
