use Rattle.std.proofs.Common.{◌≡◌, List, ℕ, refl, sym, ap, subst, ◌∙◌, inl}
use Rattle.wopi_http.specs.declared.message.Request.{Request}
use Rattle.wopi_http.specs.declared.reading.Got.{Got}
use Rattle.wopi_http.specs.Answers.{Finds}
use Rattle.wopi_http.specs.RequestTexts.{received, request_text}
use Rattle.wopi_headers.specs.Operations.{AsksFor}
use Rattle.wopi_headers.specs.Requests.{request_of}
use Rattle.replay_cmd.specs.Wires.{localhost}
use Rattle.replay_cmd.proofs.CarriedLemmas.{found, message_found, none_found, went_over}
use Rattle.replay_cmd.proofs.carrying.carry_request.Goals as goal

pub returns-in-Message-clause-arrives : goal.returns-in-Message-clause-arrives
returns-in-Message-clause-arrives g c = λ straight.
    let ask = c.args.ask.now in
    let body = c.as_slice-contents.result.now in
    let readable = c.is_readable.ensures c.if-not-is_readable.false in
    let q : Request = received (request_of ask localhost body) in
    let text_is : c.in_ok-text.text ≡ request_text (request_of ask localhost body) = c.in_ok-text.ensures in
    let finds = found c.in_ok-arrived.arrived (request_text (request_of ask localhost body)) q c.in_ok-request.field-0 c.in_ok-request.ensures.found
    (c.in_ok-arrived.ensures.same straight ∙ text_is) (c.what_is_asked_is_read.ensures.message ask localhost body readable) in
    let same : c.in-Message.request ≡ q = subst (λ (k : Got). Finds q k) c.in-Message.is finds in (
      subst (λ (r : Request). AsksFor r ask) (sym same) (c.what_is_asked_is_read.ensures.asks ask localhost body readable),
      ap (λ (r : Request). r.body) same ∙ c.what_is_asked_is_read.ensures.body ask localhost body ∙ c.as_slice-contents.ensures,
    )

pub returns-in-End-clause-arrives : goal.returns-in-End-clause-arrives
returns-in-End-clause-arrives g c = λ straight.
    let ask = c.args.ask.now in
    let body = c.as_slice-contents.result.now in
    let readable = c.is_readable.ensures c.if-not-is_readable.false in
    let q : Request = received (request_of ask localhost body) in
    let text_is : c.in_ok-text.text ≡ request_text (request_of ask localhost body) = c.in_ok-text.ensures in
    let finds = found c.in_ok-arrived.arrived (request_text (request_of ask localhost body)) q c.in_ok-request.field-0 c.in_ok-request.ensures.found
    (c.in_ok-arrived.ensures.same straight ∙ text_is) (c.what_is_asked_is_read.ensures.message ask localhost body readable) in
    subst (λ (k : Got). Finds q k) c.in-End.is finds

pub returns-in-Refused-clause-arrives : goal.returns-in-Refused-clause-arrives
returns-in-Refused-clause-arrives g c = λ straight.
    let ask = c.args.ask.now in
    let body = c.as_slice-contents.result.now in
    let readable = c.is_readable.ensures c.if-not-is_readable.false in
    let q : Request = received (request_of ask localhost body) in
    let text_is : c.in_ok-text.text ≡ request_text (request_of ask localhost body) = c.in_ok-text.ensures in
    let finds = found c.in_ok-arrived.arrived (request_text (request_of ask localhost body)) q c.in_ok-request.field-0 c.in_ok-request.ensures.found
    (c.in_ok-arrived.ensures.same straight ∙ text_is) (c.what_is_asked_is_read.ensures.message ask localhost body readable) in
    subst (λ (k : Got). Finds q k) c.in-Refused.is finds

pub returns-in-Message-clause-went : goal.returns-in-Message-clause-went
returns-in-Message-clause-went g c =
    let ask = c.args.ask.now in
    let is = c.in_ok-text.ensures ∙ ap (λ (l : List ℕ). request_text (request_of ask localhost l)) c.as_slice-contents.ensures in
    went_over _ _ c.in_ok-text.text _ c.in_ok-arrived.arrived _ is c.in_ok-arrived.ensures.told
    (message_found c.in_ok-arrived.arrived c.in_ok-request.field-0 c.in-Message.request c.in_ok-request.ensures.found c.in_ok-request.ensures.there c.in-Message.is)

pub returns-in-End-clause-went : goal.returns-in-End-clause-went
returns-in-End-clause-went g c =
    let ask = c.args.ask.now in
    let is = c.in_ok-text.ensures ∙ ap (λ (l : List ℕ). request_text (request_of ask localhost l)) c.as_slice-contents.ensures in
    went_over _ _ c.in_ok-text.text _ c.in_ok-arrived.arrived _ is c.in_ok-arrived.ensures.told
    (none_found c.in_ok-arrived.arrived c.in_ok-request.field-0 400 c.in_ok-request.ensures.found (λ q finds. subst (λ (k : Got). Finds q k) c.in-End.is finds)
    (inl (c.in_ok-request.ensures.ended c.in-End.is, refl)))

pub returns-in-Refused-clause-went : goal.returns-in-Refused-clause-went
returns-in-Refused-clause-went g c =
    let ask = c.args.ask.now in
    let is = c.in_ok-text.ensures ∙ ap (λ (l : List ℕ). request_text (request_of ask localhost l)) c.as_slice-contents.ensures in
    went_over _ _ c.in_ok-text.text _ c.in_ok-arrived.arrived _ is c.in_ok-arrived.ensures.told
    (none_found c.in_ok-arrived.arrived c.in_ok-request.field-0 c.in-Refused.status c.in_ok-request.ensures.found (λ q finds. subst (λ (k : Got). Finds q k) c.in-Refused.is finds)
    (c.in_ok-request.ensures.refused c.in-Refused.status _ c.in-Refused.is))
