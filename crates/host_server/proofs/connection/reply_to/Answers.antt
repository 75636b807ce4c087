use Rattle.std.proofs.Common.{◌≡◌, Some, Ok, Err, sym, ap, ◌∙◌, subst}
use Rattle.wopi_http.specs.declared.message.Reply.{Reply}
use Rattle.wopi_http.specs.declared.message.Request.{Request}
use Rattle.host_server.specs.Editing.{asks_head}
use Rattle.host_server.specs.Steps.{Prepares}
use Rattle.host_server.specs.Texts.{shown}
use Rattle.host_server.specs.Turns.{AnswersTo}
use Rattle.host_server.proofs.MakeLemmas.{makes_reply, makes_none, makes_nothing}
use Rattle.host_server.proofs.connection.reply_to.Goals as goal

pub returns-in-Ok-take_reply-clause-makes : goal.returns-in-Ok-take_reply-clause-makes
returns-in-Ok-take_reply-clause-makes g c =
    let desk = c.args.desk.now in
    let old = g.C.Caller.sight c.args.caller.now in
    let new = g.C.Caller.sight c.answer_again-told.new.caller in
    let same : c.shown.result ≡ shown (asks_head desk.editor c.args.request) c.in-Ok-take_reply.reply =
    c.shown.ensures ∙ ap (λ left_out. shown left_out c.in-Ok-take_reply.reply) c.asks_head-head.ensures in
    let told = subst (λ (q : Request). AnswersTo desk.editor desk q c.args.moment g.C.Caller.always old new (Ok c.in-Ok.answer)) c.judged_as-judged.ensures
    (rw c.in-Ok.is at c.answer_again-told.ensures.answers) in
    subst (λ (r : Reply). Prepares desk g.C.Caller.always c.args.request c.args.moment c.args.close old new (Some r)) (sym same)
    (makes_reply desk g.C.Caller.always c.args.request c.args.moment c.args.close old new c.in-Ok.answer c.in-Ok-take_reply.reply c.requires.asked told
    c.in-Ok-take_reply.ensures.reply)

pub returns-in-Ok-clause-makes : goal.returns-in-Ok-clause-makes
returns-in-Ok-clause-makes g c =
    let desk = c.args.desk.now in
    let old = g.C.Caller.sight c.args.caller.now in
    let new = g.C.Caller.sight c.answer_again-told.new.caller in
    let told = subst (λ (q : Request). AnswersTo desk.editor desk q c.args.moment g.C.Caller.always old new (Ok c.in-Ok.answer)) c.judged_as-judged.ensures
    (rw c.in-Ok.is at c.answer_again-told.ensures.answers) in
    makes_none desk g.C.Caller.always c.args.request c.args.moment c.args.close old new c.in-Ok.answer c.requires.asked told

pub returns-clause-makes : goal.returns-clause-makes
returns-clause-makes g c =
    let desk = c.args.desk.now in
    let old = g.C.Caller.sight c.args.caller.now in
    let new = g.C.Caller.sight c.answer_again-told.new.caller in
    let told = subst (λ (q : Request). AnswersTo desk.editor desk q c.args.moment g.C.Caller.always old new (Err c.in-Err.field-0)) c.judged_as-judged.ensures
    (rw c.in-Err.is at c.answer_again-told.ensures.answers) in
    makes_nothing desk g.C.Caller.always c.args.request c.args.moment c.args.close old new c.in-Err.field-0 c.requires.asked told
