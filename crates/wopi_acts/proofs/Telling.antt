-- What is told of a ruling where the store didn't fail.
use Rattle.std.proofs.Common.{◌≡◌, ◌≢◌, ℕ, Bool, cond, [], codes, unwrap_or, ap}
use Rattle.std.proofs.lemmas.Bool.{ne_eqb}
use Rattle.wopi_text.specs.declared.lock_field.LockField.TheVariants.{Absent}
use Rattle.wopi_headers.specs.declared.answer.Answer.{Answer}
use Rattle.wopi_headers.specs.declared.answer.BodyKind.TheVariants.{None as NoBody, Plain}
use Rattle.wopi_model.specs.declared.calls.Ruling.{Ruling}
use Rattle.wopi_model.specs.Step.{bare}
use Rattle.wopi_acts.specs.Answers.{status_only, body_of, ruling_told}

pub told_body : (ruling : Ruling) → ruling.status ≢ 500 → body_of ruling ≡ unwrap_or ruling.contents []
told_body ruling fine = ap (λ (b : Bool). cond b (codes "store fault") (unwrap_or ruling.contents [])) (ne_eqb ruling.status 500 fine)

pub bare_told : (status : ℕ) → status ≢ 500 → ruling_told (bare status) ≡ status_only status
bare_told status fine =
    let told : Bool → Answer =
    λ b. record { status = status; lock = Absent; reason = Rattle.std.specs.Prelude.None; version = Rattle.std.specs.Prelude.None; kind = cond b Plain NoBody; body = cond b (codes "store fault") [] } in
    ap told (ne_eqb status 500 fine)
