use Rattle.std.proofs.Common.{[], Result, refl, sym, ◌∙◌, subst}
use Rattle.std.proofs.lemmas.List.{append-nil}
use Rattle.outside.specs.Faults.{Rose}
use Rattle.wopi_http.specs.Replies.{Writes}
use Rattle.host_server.specs.declared.connection.Unsent.{Unsent}
use Rattle.host_server.specs.Texts.{options_text, sent_text}
use Rattle.std.proofs.KnownBytes.{Appends-nil}
use Rattle.host_server.specs.Turns.{options, said_text}
use Rattle.host_server.proofs.DeedLemmas.{Does-nil}
use Rattle.host_server.proofs.StepLemmas.{fault_as, never_lost, writes_as}
use Rattle.host_server.proofs.connection.answer_message.Goals as goal

pub returns-then-asks_options-clause-replies : goal.returns-then-asks_options-clause-replies
returns-then-asks_options-clause-replies g c = record {
  moment = c.now-moment.result;
  part = [];
  said = options;
  in_time = c.now-moment.ensures.moment;
  is_said = (sym c.asks_options.ensures ∙ c.if-asks_options.true, refl);
  times = c.now-moment.ensures.told;
  makes = Does-nil g.C.Caller.always (g.C.Caller.sight c.args.caller.now);
  writes = subst (λ (r : Result _ Unsent). Writes (g.L.Sink.held c.args.link.now) (g.L.Sink.held c.send_options.new.link) r (options_text c.args.close)) (sym c.as_unsent.ensures)
      (writes_as _ _ c.send_options.result _ c.send_options.ensures.bytes);
}

pub returns-then-asks_options-clause-extends : goal.returns-then-asks_options-clause-extends
returns-then-asks_options-clause-extends g c = ([], sym (append-nil (g.C.Caller.sight c.args.caller.now).told))

pub returns-then-asks_options-clause-sure : goal.returns-then-asks_options-clause-sure
returns-then-asks_options-clause-sure g c = λ _ told. told

pub returns-then-asks_options-clause-telling : goal.returns-then-asks_options-clause-telling
returns-then-asks_options-clause-telling g c = λ _ told. told

pub returns-then-asks_options-clause-lost : goal.returns-then-asks_options-clause-lost
returns-then-asks_options-clause-lost g c = λ lost. absurd (never_lost c.send_options.result (sym c.as_unsent.ensures ∙ lost))

pub returns-then-asks_options-clause-cause : goal.returns-then-asks_options-clause-cause
returns-then-asks_options-clause-cause g c = λ lost _. absurd (never_lost c.send_options.result (sym c.as_unsent.ensures ∙ lost))

pub returns-then-asks_options-clause-failed : goal.returns-then-asks_options-clause-failed
returns-then-asks_options-clause-failed g c = λ failed.
    fault_as (Rose (g.L.Sink.write_faults c.args.link.now) (g.L.Sink.write_faults c.send_options.new.link)) c.send_options.result c.send_options.ensures.failed (sym c.as_unsent.ensures ∙ failed)

pub returns-clause-replies : goal.returns-clause-replies
returns-clause-replies g c =
    let prepares = c.reply_to-reply.ensures.makes in
    record {
      moment = c.now-moment.result;
      part = prepares.part;
      said = prepares.said;
      in_time = c.now-moment.ensures.moment;
      is_said = prepares.is_said;
      times = c.now-moment.ensures.told;
      makes = prepares.makes;
      writes = ([], said_text prepares.said c.args.close, refl, Appends-nil (g.L.Sink.held c.args.link.now));
    }
