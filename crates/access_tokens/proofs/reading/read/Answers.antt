use Rattle.std.proofs.Common.{List, ℕ, Option, Result, Ok, Err, subst}
use Rattle.wopi_model.specs.declared.token.Token.{Token}
use Rattle.access_tokens.specs.Signed.{IsChecked}
use Rattle.access_tokens.specs.TokenText.{ReadsAs, number_of, signed_text}
use Rattle.access_tokens.specs.declared.checking.TokenFault.{TokenFault}
use Rattle.access_tokens.specs.declared.keys.Keys.{Keys}
use Rattle.access_tokens.proofs.Readings.{one_reading}
use Rattle.access_tokens.proofs.Verdicts.{IsAnswer, IsAnswer-right, IsAnswer-wrong, front_is}
use Rattle.access_tokens.proofs.reading.read.Goals as goal

abbrev Answers : Keys → List ℕ → Result Token TokenFault → Type 0
Answers keys text r = IsAnswer (Option ℕ) Token keys text number_of signed_text (λ w t m. ReadsAs text w t m) (one_reading text) r

pub check_code-requires : goal.check_code-requires
check_code-requires c = (front_is _ _ _ c.in-Some.ensures.some.digits c.in-Some.ensures.some.fields).0

right : (c : goal.In-Ok) → Answers c.args.keys.now c.args.text.now (Ok c.in-Some.reading.token)
right c =
    let reading = c.in-Some.ensures.some in
    IsAnswer-right (Option ℕ) Token c.args.keys.now c.args.text.now number_of signed_text (λ w t m. ReadsAs c.args.text.now w t m)
    (one_reading c.args.text.now) c.in-Some.reading.written c.in-Some.reading.token c.in-Some.reading.mac.now reading
    (front_is _ _ _ reading.digits reading.fields).1
    (subst (λ n. IsChecked c.args.keys.now n c.args.text.now c.in-Some.reading.mac.now (Ok (record {}))) c.unwrap_or.ensures c.in-Ok.ensures)

pub returns-in-Ok-clause-exact : goal.returns-in-Ok-clause-exact
returns-in-Ok-clause-exact c = (right c).exact

pub returns-in-Ok-clause-bad_form : goal.returns-in-Ok-clause-bad_form
returns-in-Ok-clause-bad_form c = (right c).bad_form

pub returns-in-Ok-clause-no_key : goal.returns-in-Ok-clause-no_key
returns-in-Ok-clause-no_key c = (right c).no_key

pub returns-in-Ok-clause-bad_mac : goal.returns-in-Ok-clause-bad_mac
returns-in-Ok-clause-bad_mac c = (right c).bad_mac

wrong : (c : goal.In-Err) → Answers c.args.keys.now c.args.text.now (Err c.in-Err.fault)
wrong c =
    let reading = c.in-Some.ensures.some in
    IsAnswer-wrong (Option ℕ) Token c.args.keys.now c.args.text.now number_of signed_text (λ w t m. ReadsAs c.args.text.now w t m)
    (one_reading c.args.text.now) c.in-Some.reading.written c.in-Some.reading.token c.in-Some.reading.mac.now c.in-Err.fault reading
    (front_is _ _ _ reading.digits reading.fields).1
    (subst (λ n. IsChecked c.args.keys.now n c.args.text.now c.in-Some.reading.mac.now (Err c.in-Err.fault)) c.unwrap_or.ensures c.in-Err.ensures)

pub returns-in-Err-clause-exact : goal.returns-in-Err-clause-exact
returns-in-Err-clause-exact c = (wrong c).exact

pub returns-in-Err-clause-bad_form : goal.returns-in-Err-clause-bad_form
returns-in-Err-clause-bad_form c = (wrong c).bad_form

pub returns-in-Err-clause-no_key : goal.returns-in-Err-clause-no_key
returns-in-Err-clause-no_key c = (wrong c).no_key

pub returns-in-Err-clause-bad_mac : goal.returns-in-Err-clause-bad_mac
returns-in-Err-clause-bad_mac c = (wrong c).bad_mac
