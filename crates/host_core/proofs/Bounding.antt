-- Where the store bounds the calls, and where it doesn't.
use Rattle.std.proofs.Common.{◌≡◌, ◌↔◌, ℕ, ◌-◌, ◌≤◌, Bool, true, false, IsTrue, Option, None, Some, is_some, nat_lt, refl, arith}
use Rattle.std.proofs.lemmas.Bool.Decides.{nat_tests}
use Rattle.wopi_model.specs.declared.calls.Call.{Call}
use Rattle.wopi_model.specs.File.{File}
use Rattle.wopi_model.specs.Host.{begins_lock}
use Rattle.wopi_model.specs.Settle.{settled}
use Rattle.kept_locks.specs.Locks.{Locks}
use Rattle.host_core.specs.Ledger.{HasNoPlaceFor, IsReady, bytes_beside}
use Rattle.host_core.specs.Steps.{WantsPlace}

pub none_of : (calls : Option ℕ) → is_some calls ≡ false → calls ≡ None
none_of None e = refl
none_of (Some most) e = absurd (cc (e))

pub not_none : (calls : Option ℕ) → is_some calls ≡ true → calls ≡ None → ⊥
not_none None some e = cc (some)
not_none (Some most) some e = cc (e)

pub not_some : (calls : Option ℕ) (most : ℕ) → is_some calls ≡ false → calls ≡ Some most → ⊥
not_some None most none e = cc (e)
not_some (Some other) most none e = cc (none)

pub ready_bounded : (calls : Option ℕ) (locks : Locks) → is_some calls ≡ true → IsReady calls locks
ready_bounded None locks e = absurd (cc (e))
ready_bounded (Some most) locks e = tt

pub ready_by : (calls : Option ℕ) (locks : Locks) → 1 ≤ locks.spare → IsReady calls locks
ready_by None locks spare = spare
ready_by (Some most) locks spare = tt

-- a shard lacks no place whose calls are bounded
pub lacks_none : (calls : Option ℕ) (ids places : ℕ) (file : File) (call : Call) (opened now : ℕ) → is_some calls ≡ true → IsTrue false ↔ HasNoPlaceFor calls ids places file call opened now
lacks_none None ids places file call opened now e = absurd (cc (e))
lacks_none (Some most) ids places file call opened now e = (λ h. absurd (cc (h)), λ none. absurd none)

-- nor one whose call begins no lock
pub lacks_other : (calls : Option ℕ) (ids places : ℕ) (file : File) (call : Call) (opened now : ℕ) → ((other : File) → begins_lock other call.act ≡ false) → IsTrue false ↔ HasNoPlaceFor calls ids places file call opened now
lacks_other (Some most) ids places file call opened now begins = (λ h. absurd (cc (h)), λ none. absurd none)
lacks_other None ids places file call opened now begins = (λ h. absurd (cc (h)), λ lacks. absurd (cc (lacks.0.1, begins (settled file now))))

-- nor one that has a place left
pub lacks_left : (calls : Option ℕ) (ids places : ℕ) (file : File) (call : Call) (opened now : ℕ) → nat_lt places ids ≡ true → IsTrue false ↔ HasNoPlaceFor calls ids places file call opened now
lacks_left (Some most) ids places file call opened now e = (λ h. absurd (cc (h)), λ none. absurd none)
lacks_left None ids places file call opened now e = (λ h. absurd (cc (h)), λ lacks. absurd (over lacks.1)) where
  over : ids ≤ places → ⊥
  over le = grind (arith, nat_tests, e, le)

-- else it does where the call wants one
pub lacks_by : (calls : Option ℕ) (ids places : ℕ) (file : File) (call : Call) (opened now : ℕ) (answer : Bool) → is_some calls ≡ false → nat_lt places ids ≡ false
    → (IsTrue answer ↔ WantsPlace file call opened now) → IsTrue answer ↔ HasNoPlaceFor calls ids places file call opened now
lacks_by (Some most) ids places file call opened now answer none e wants = absurd (cc (none))
lacks_by None ids places file call opened now answer none e wants =
    let taken : ids ≤ places = grind (arith, nat_tests, e) in
    (λ h. (wants.0 h, taken), λ lacks. wants.1 lacks.0)

pub beside_all : (calls : Option ℕ) (bytes former : ℕ) → is_some calls ≡ true → bytes ≡ bytes_beside calls bytes former
beside_all None bytes former e = absurd (cc (e))
beside_all (Some most) bytes former e = refl

pub beside_live : (calls : Option ℕ) (bytes former : ℕ) → is_some calls ≡ false → bytes - former ≡ bytes_beside calls bytes former
beside_live None bytes former e = refl
beside_live (Some most) bytes former e = absurd (cc (e))
