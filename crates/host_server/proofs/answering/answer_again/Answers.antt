use Rattle.std.proofs.Common.{List, IfSome, ap, subst, ◌∙◌}
use Rattle.wopi_http.specs.declared.message.Field.{Field}
use Rattle.host_server.specs.Answering.{RuledTo, Contained, asked_with, container_asked_with}
use Rattle.host_server.specs.Calls.{Tells}
use Rattle.host_server.specs.Known.{last_known}
use Rattle.wopi_acts.specs.Answers.{status_only}
use Rattle.host_server.proofs.TellLemmas.{is_kept, kept_answers, contained_answers, refused_answers}
use Rattle.host_server.proofs.Keeping.{keeps_none}
use Rattle.host_server.proofs.answering.answer_again.Goals as goal

pub returns-in-Ok-None-clause-answers : goal.returns-in-Ok-None-clause-answers
returns-in-Ok-None-clause-answers g c =
    kept_answers c.args.editor c.args.desk.now c.args.request c.args.moment g.C.Caller.always _ (rw c.in-Ok-None.field-0-is at c.in-Ok-None.ensures.read) (g.C.Caller.sight c.args.caller.now)
    (g.C.Caller.sight c.answer_kept.new.caller) c.answer_kept.result
    (subst (λ (fields : List Field). IfSome c.place_into.new.place (λ ask. Tells (RuledTo c.args.editor (last_known c.args.editor fields) c.args.desk.now (asked_with c.args.editor fields ask) c.args.request.body c.args.moment) g.C.Caller.always
    (g.C.Caller.sight c.args.caller.now) (g.C.Caller.sight c.answer_kept.new.caller) c.answer_kept.result)) c.as_slice.ensures c.answer_kept.ensures.tells)

pub answer_kept-requires-clause-asked : goal.answer_kept-requires-clause-asked
answer_kept-requires-clause-asked g c = is_kept c.args.request _ (rw c.in-Ok-None.field-0-is at c.in-Ok-None.ensures.read)

pub returns-in-Ok-Some-clause-answers : goal.returns-in-Ok-Some-clause-answers
returns-in-Ok-Some-clause-answers g c =
    let asks = rw c.in-Ok-Some.field-0-is at c.in-Ok-Some.ensures.read in
    contained_answers c.args.editor c.args.desk.now c.args.request c.args.moment g.C.Caller.always c.in-Ok-Some.ask asks.0 asks.1 (g.C.Caller.sight c.args.caller.now)
    (g.C.Caller.sight c.answer_container.new.caller) c.answer_container.result
    (subst (λ (fields : List Field). Tells (Contained c.args.desk.now (container_asked_with c.args.editor fields c.in-Ok-Some.ask) c.args.moment) g.C.Caller.always
    (g.C.Caller.sight c.args.caller.now) (g.C.Caller.sight c.answer_container.new.caller) c.answer_container.result) c.as_slice-in-Ok-Some.ensures c.answer_container.ensures.tells)

pub returns-in-Err-Refused-clause-answers : goal.returns-in-Err-Refused-clause-answers
returns-in-Err-Refused-clause-answers g c =
    refused_answers c.args.editor c.args.desk.now c.args.request c.args.moment g.C.Caller.always c.in-Err-Refused.status (g.C.Caller.sight c.args.caller.now) _
    (rw c.in-Err-Refused.field-0-is at c.in-Err-Refused.ensures.read) (c.status_only.ensures ∙ ap status_only c.refused_status-status.ensures)

pub returns-in-Err-Refused-clause-telling : goal.returns-in-Err-Refused-clause-telling
returns-in-Err-Refused-clause-telling g c = keeps_none g.C.Caller.loses (g.C.Caller.telling c.args.caller.now) (g.C.Caller.sight c.args.caller.now)

pub returns-clause-telling : goal.returns-clause-telling
returns-clause-telling g c = keeps_none g.C.Caller.loses (g.C.Caller.telling c.args.caller.now) (g.C.Caller.sight c.args.caller.now)
