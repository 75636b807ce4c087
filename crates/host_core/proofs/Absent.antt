-- A call on a name that wasn't met, which doesn't create it.
use Rattle.std.proofs.Common.{◌≡◌, ◌≢◌, ℕ, ◌-◌, Bool, true, false, not, ◌||◌, if◌then◌else◌, List, [], length, Option, None, refl, sym, ap, ◌∙◌, ◌==◌}
use Rattle.outside.specs.Folder.{Files}
use Rattle.wopi_model.specs.declared.calls.Act.{Act}
use Rattle.wopi_model.specs.declared.calls.Act.TheVariants as act
use Rattle.wopi_model.specs.declared.calls.Call.{Call}
use Rattle.wopi_model.specs.declared.calls.Ruling.{Ruling}
use Rattle.wopi_model.specs.Act.{is_create}
use Rattle.wopi_model.specs.File.{File, never_met}
use Rattle.wopi_model.specs.Host.{begins_lock}
use Rattle.wopi_model.specs.Settle.{settled}
use Rattle.wopi_model.specs.Step.{Decision, Refuse, Accept, decision, ruling_of, is_unauthorized, is_missing}
use Rattle.host_core.specs.Places.{first_of}
use Rattle.host_core.specs.Notes.{Brought}
use Rattle.host_core.specs.declared.accept.Carried.{Carried}
use Rattle.host_core.specs.Entries.{brought_by}
use Rattle.host_core.specs.Files.{is_named}
use Rattle.host_core.specs.Steps.{StepsAll, WantsPlace}
use Rattle.host_core.specs.Whole.{Whole}
use Rattle.host_core.proofs.Moving.{turned_moves}
use Rattle.host_core.proofs.Stepping.{skip_steps}

second : {A : Type 0} (a b : Bool) (x y z : A) → b ≡ true → (if a then x else if b then y else z) ≡ (if a then x else y)
second true b x y z e = refl
second false b x y z e = ap (λ (t : Bool). if t then y else z) e

-- it is refused, as the token's holder may see nothing there
pub absent_decision : (oldest : ℕ) (call : Call) (opened now : ℕ) → is_create call.act ≡ false
    → decision (settled (never_met oldest) now) call opened now ≡ (if is_unauthorized call opened now then Refuse 401 else Refuse 404)
absent_decision oldest call opened now create =
    second (is_unauthorized call opened now) (is_missing (settled (never_met oldest) now) call.act) (Refuse 401) (Refuse 404) _ (ap (λ (b : Bool). not (b || false)) create)

refused : (b : Bool) → (if b then Refuse 401 else Refuse 404) ≢ Accept
refused true e = cc
refused false e = cc

pub absent_differs : (oldest : ℕ) (call : Call) (opened now : ℕ) → is_create call.act ≡ false → decision (settled (never_met oldest) now) call opened now ≢ Accept
absent_differs oldest call opened now create = λ e. refused (is_unauthorized call opened now) (sym (absent_decision oldest call opened now create) ∙ e)

creates_none : (file : File) (asked : Act) → begins_lock file asked ≡ true → is_create asked ≡ false
creates_none file (act.Lock id) e = refl
creates_none file (act.Relock old id) e = refl
creates_none file act.Info e = refl
creates_none file (act.Get most) e = refl
creates_none file (act.Put lock contents) e = refl
creates_none file act.GetLock e = refl
creates_none file (act.Refresh id) e = refl
creates_none file (act.Unlock id) e = refl
creates_none file act.Look e = refl
creates_none file (act.Create overwrite contents) e = absurd (cc (e))
creates_none file act.Delete e = refl

-- no lock begins on a name that wasn't met
pub absent_place : (oldest : ℕ) (call : Call) (opened now : ℕ) → WantsPlace (never_met oldest) call opened now → ⊥
absent_place oldest call opened now wants =
    refused (is_unauthorized call opened now) (sym (absent_decision oldest call opened now (creates_none (settled (never_met oldest) now) call.act wants.1)) ∙ wants.0)

refused_at : (oldest : ℕ) (b : Bool) (ruling : Ruling) (call : Call) (now : ℕ) → ruling ≡ ruling_of (if b then Refuse 401 else Refuse 404) (settled (never_met oldest) now) call now → (ruling.status == 200 || ruling.status == 500) ≡ false
refused_at oldest true ruling call now e = ap (λ (r : Ruling). r.status == 200 || r.status == 500) e
refused_at oldest false ruling call now e = ap (λ (r : Ruling). r.status == 200 || r.status == 500) e

pub absent_steps : (oldest : ℕ) (files : Option Files) (bytes : ℕ) (saved : Option Brought) (count : ℕ) (before : List Whole) (call : Call) (opened now : ℕ) (carried : Carried)
    → first_of (is_named call.name) before ≡ None → is_create call.act ≡ false
    → carried.ruling ≡ ruling_of (decision (settled (never_met oldest) now) call opened now) (settled (never_met oldest) now) call now → carried.back ≡ brought_by call.act
    → StepsAll oldest files files bytes saved saved count count before before call opened now carried
absent_steps oldest files bytes saved count before call opened now carried fresh create told back =
    let k : Whole = record { name = call.name; contents = None; version = oldest - 1; lock = None; spent = []; torn = false } in
    let d = decision (settled (never_met oldest) now) call opened now in
    let is = absent_decision oldest call opened now create in
    skip_steps oldest files files bytes saved saved count count before (length before) k k call opened now carried fresh refl refl refl
    (refused_at oldest (is_unauthorized call opened now) carried.ruling call now (told ∙ ap (λ (x : Decision). ruling_of x (settled (never_met oldest) now) call now) is))
    (turned_moves files bytes saved count k k call opened now carried d refl (absent_differs oldest call opened now create) told refl refl refl back)
