use Rattle.std.proofs.Common.{◌≡◌, List, ℕ, Result, Ok, Err}
use Rattle.access_tokens.specs.declared.checking.TokenFault.{TokenFault}
use Rattle.access_tokens.specs.declared.keys.Keys.{Keys}
use Rattle.access_tokens.proofs.Verdicts.{IsAnswer, IsAnswer-right, IsAnswer-wrong, front_is}
use Rattle.containers.specs.TokenText.{ReadsAs, signed_text}
use Rattle.containers.specs.declared.token.ContainerToken.{ContainerToken}
use Rattle.containers.proofs.Readings.{one_reading}
use Rattle.containers.proofs.reading.container_read.Goals as goal

abbrev Answers : Keys → List ℕ → Result ContainerToken TokenFault → Type 0
Answers keys text r = IsAnswer ℕ ContainerToken keys text (λ n. n) signed_text (λ n t m. ReadsAs text n t m) (one_reading text) r

pub check_code-requires : goal.check_code-requires
check_code-requires c = (front_is _ _ _ c.in-Some.ensures.some.digits c.in-Some.ensures.some.fields).0

right : (c : goal.In-Ok) → Answers c.args.keys.now c.args.text.now (Ok c.in-Some.reading.token)
right c =
    let reading = c.in-Some.ensures.some in
    IsAnswer-right ℕ ContainerToken c.args.keys.now c.args.text.now (λ n. n) signed_text (λ n t m. ReadsAs c.args.text.now n t m)
    (one_reading c.args.text.now) c.in-Some.reading.number c.in-Some.reading.token c.in-Some.reading.mac.now reading
    (front_is _ _ _ reading.digits reading.fields).1 c.in-Ok.ensures

pub returns-in-Ok-clause-exact : goal.returns-in-Ok-clause-exact
returns-in-Ok-clause-exact c = (right c).exact

pub returns-in-Ok-clause-bad_form : goal.returns-in-Ok-clause-bad_form
returns-in-Ok-clause-bad_form c = (right c).bad_form

pub returns-in-Ok-clause-no_key : goal.returns-in-Ok-clause-no_key
returns-in-Ok-clause-no_key c = (right c).no_key

pub returns-in-Ok-clause-bad_mac : goal.returns-in-Ok-clause-bad_mac
returns-in-Ok-clause-bad_mac c = (right c).bad_mac

wrong : (c : goal.In-Err) → Answers c.args.keys.now c.args.text.now (Err c.in-Err.fault)
wrong c =
    let reading = c.in-Some.ensures.some in
    IsAnswer-wrong ℕ ContainerToken c.args.keys.now c.args.text.now (λ n. n) signed_text (λ n t m. ReadsAs c.args.text.now n t m)
    (one_reading c.args.text.now) c.in-Some.reading.number c.in-Some.reading.token c.in-Some.reading.mac.now c.in-Err.fault reading
    (front_is _ _ _ reading.digits reading.fields).1 c.in-Err.ensures

pub returns-in-Err-clause-exact : goal.returns-in-Err-clause-exact
returns-in-Err-clause-exact c = (wrong c).exact

pub returns-in-Err-clause-bad_form : goal.returns-in-Err-clause-bad_form
returns-in-Err-clause-bad_form c = (wrong c).bad_form

pub returns-in-Err-clause-no_key : goal.returns-in-Err-clause-no_key
returns-in-Err-clause-no_key c = (wrong c).no_key

pub returns-in-Err-clause-bad_mac : goal.returns-in-Err-clause-bad_mac
returns-in-Err-clause-bad_mac c = (wrong c).bad_mac
