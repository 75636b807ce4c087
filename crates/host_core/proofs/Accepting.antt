-- What is ruled of a stored call that was accepted is known ahead.
use Rattle.std.proofs.Common.{◌≡◌, inl, inr, ℕ, ◌==◌, true, if◌then◌else◌, Option, None, refl, sym, ap, subst, ◌∙◌, arith}
use Rattle.wopi_model.specs.declared.calls.Act.{Act}
use Rattle.wopi_model.specs.declared.calls.Act.TheVariants as act
use Rattle.wopi_model.specs.declared.calls.Call.{Call}
use Rattle.wopi_model.specs.declared.calls.Ruling.{Ruling}
use Rattle.wopi_model.specs.Act.{is_stored, lock_act, presents_spent}
use Rattle.wopi_model.specs.File.{File}
use Rattle.wopi_model.specs.LockTable.{verdict}
use Rattle.wopi_model.specs.Step.{Decision, acceptance, effect, is_missing, is_too_large, is_unauthorized, lacks_right, ruling_of, IsOutcome}
use Rattle.host_core.specs.Notes.{Brought, accepted, told_version}
use Rattle.host_core.specs.Store.{saved_with}
use Rattle.host_core.proofs.Decisions.{by_rows}

accepts_ahead : (asked : Act) (after : File) → is_stored asked ≡ true → acceptance asked after ≡ accepted (told_version (saved_with None asked (acceptance asked after).version))
accepts_ahead (act.Put lock contents) after stored = refl
accepts_ahead (act.Create overwrite contents) after stored = refl
accepts_ahead act.Delete after stored = refl
accepts_ahead act.Info after stored = absurd (cc (stored))
accepts_ahead (act.Get most) after stored = absurd (cc (stored))
accepts_ahead (act.Lock id) after stored = absurd (cc (stored))
accepts_ahead act.GetLock after stored = absurd (cc (stored))
accepts_ahead (act.Refresh id) after stored = absurd (cc (stored))
accepts_ahead (act.Unlock id) after stored = absurd (cc (stored))
accepts_ahead (act.Relock old id) after stored = absurd (cc (stored))
accepts_ahead act.Look after stored = absurd (cc (stored))

abbrev AheadBy : Act → Ruling → Type 0
AheadBy asked ruling = ruling.status ≡ 200 → ruling ≡ accepted (told_version (saved_with None asked ruling.version))

ruled_ahead : (file : File) (call : Call) (opened now : ℕ) (ruling : Ruling) → IsOutcome file call opened now ruling → is_stored call.act ≡ true → AheadBy call.act ruling
ruled_ahead file call opened now ruling (inl e) stored =
    let P : Decision → Type 0 = λ d. AheadBy call.act (ruling_of d file call now) in
    subst (λ (r : Ruling). AheadBy call.act r) (sym e) (
    by_rows P (λ (h : 401 ≡ 200). absurd (omega (arith, h))) (λ (h : 404 ≡ 200). absurd (omega (arith, h))) (λ reason (h : 409 ≡ 200). absurd (omega (arith, h)))
    (λ (h : 412 ≡ 200). absurd (omega (arith, h))) (λ _. accepts_ahead call.act (effect file call now) stored)
    (is_unauthorized call opened now) (is_missing file call.act) (lacks_right call) (is_too_large file call.act) (verdict file.lock (presents_spent file.spent call.act) (lock_act file call.act))
    )
ruled_ahead file call opened now ruling (inr h) stored = λ status.
    let fault : 500 ≡ 200 = sym (ap (λ (r : Ruling). r.status) h.2) ∙ status in absurd (omega (arith, fault))

-- the ruling tells the version of what was saved, and nothing more
pub told_ahead : (file : File) (call : Call) (opened now : ℕ) (ruling : Ruling) (saved saved' : Option Brought) → IsOutcome file call opened now ruling → saved ≡ None
    → saved' ≡ (if ruling.status == 200 then saved_with saved call.act ruling.version else saved) → is_stored call.act ≡ true → ruling.status ≡ 200 → ruling ≡ accepted (told_version saved')
told_ahead file call opened now ruling saved saved' outcome none is stored status =
    let kept : saved' ≡ saved_with None call.act ruling.version =
    is ∙ ap (λ (s : Option Brought). if ruling.status == 200 then saved_with s call.act ruling.version else s) none
    ∙ ap (λ (n : ℕ). if n == 200 then saved_with None call.act ruling.version else None) status in
    ruled_ahead file call opened now ruling outcome stored status ∙ ap (λ (s : Option Brought). accepted (told_version s)) (sym kept)
