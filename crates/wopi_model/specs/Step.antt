-- One act on one file.
use Rattle.std.specs.Prelude.{◌≡◌, ◌⊎◌, ℕ, ◌+◌, Bool, true, false, not, ◌&&◌, ◌||◌, List, [], length, Option, None, Some, nat_lt, unwrap_or, ◌==◌, if◌then◌else◌}
use Rattle.std.specs.Str.{bytes_eq}
use Rattle.wopi_text.specs.declared.reason.Reason.{Reason}
use Rattle.wopi_text.specs.declared.lock_field.LockField.{LockField}
use Rattle.wopi_text.specs.declared.lock_field.LockField.TheVariants as field
use Rattle.wopi_model.specs.declared.calls.Call.{Call}
use Rattle.wopi_model.specs.declared.calls.Ruling.{Ruling}
use Rattle.wopi_model.specs.declared.calls.Act.{Act}
use Rattle.wopi_model.specs.declared.calls.Act.TheVariants as act
use Rattle.wopi_model.specs.Token.{is_live}
use Rattle.wopi_model.specs.declared.locks.Lock.{Lock}
use Rattle.wopi_model.specs.File.{File, exists}
use Rattle.wopi_model.specs.Settle.{with_spent}
use Rattle.wopi_model.specs.declared.locks.Verdict.TheVariants as says
use Rattle.wopi_model.specs.LockTable.{verdict, lock_after, spent_by}
use Rattle.wopi_model.specs.declared.calls.Act.{Act}
use Rattle.wopi_model.specs.Act.{lock_act, presents_spent, is_create, needs_write, is_stored}

pub data Decision : Type 0 where
  Refuse : (status : ℕ) → Decision
  Conflict : (reason : Reason) → Decision
  Accept : Decision

-- the file has more bytes than the act wants
abbrev pub is_too_large : File → Act → Bool
is_too_large file (act.Get (Some most)) = nat_lt most (length (unwrap_or file.contents []))
is_too_large file _ = false

-- the token is dead, or is for another file
abbrev pub is_unauthorized : Call → ℕ → ℕ → Bool
is_unauthorized call opened now =
    not (is_live call.token opened now) || not (is_create call.act || bytes_eq call.token.file call.name)

abbrev pub is_missing : File → Act → Bool
is_missing file asked = not (is_create asked || exists file)

abbrev pub lacks_right : Call → Bool
lacks_right call = needs_write call.act && not call.token.write

-- The decision on a settled file, by the first row that applies.
abbrev pub decision : File → Call → ℕ → ℕ → Decision
decision file call opened now =
    if is_unauthorized call opened now then Refuse 401
    else if is_missing file call.act then Refuse 404
    else if lacks_right call then Refuse 404
    else elim (verdict file.lock (presents_spent file.spent call.act) (lock_act file call.act)) [
      | says.Refuse reason ↦ Conflict reason
      | says.Accept ↦ if is_too_large file call.act then Refuse 412 else Accept
    ]

abbrev pub contents_after : File → Act → Option (List ℕ)
contents_after file (act.Put lock contents) = Some contents
contents_after file (act.Create overwrite contents) = Some contents
contents_after file act.Delete = None
contents_after file _ = file.contents

abbrev pub version_after : File → Act → ℕ
version_after file (act.Put lock contents) = file.version + 1
version_after file (act.Create overwrite contents) = file.version + 1
version_after file _ = file.version

-- what an accepted act leaves
abbrev pub effect : File → Call → ℕ → File
effect file call now =
    record {
      contents = contents_after file call.act;
      version = version_after file call.act;
      lock = lock_after file.lock (lock_act file call.act) call.token.expires now;
      spent = with_spent (spent_by file.lock (lock_act file call.act) call.token.expires) file.spent;
    }

abbrev pub lock_field : Option Lock → LockField
lock_field None = field.Empty
lock_field (Some lock) = field.Held lock.id

-- a ruling that tells nothing but its status
abbrev pub bare : ℕ → Ruling
bare status = record { status = status; lock = field.Absent; reason = None; version = None; size = 0; contents = None }

-- what is told of an accepted act; `after` is the file then
abbrev pub acceptance : Act → File → Ruling
acceptance act.Info after = record (bare 200) { version = Some after.version; size = length (unwrap_or after.contents []) }
acceptance (act.Get most) after = record (bare 200) { version = Some after.version; contents = after.contents }
acceptance (act.Put lock contents) after = record (bare 200) { version = Some after.version }
acceptance (act.Lock id) after = record (bare 200) { version = Some after.version }
acceptance act.GetLock after = record (bare 200) { lock = lock_field after.lock }
acceptance (act.Unlock id) after = record (bare 200) { version = Some after.version }
acceptance (act.Relock old id) after = record (bare 200) { version = Some after.version }
acceptance (act.Create overwrite contents) after = record (bare 200) { version = Some after.version }
acceptance _ after = bare 200

-- what is told, and the file then
abbrev pub ruling_of : Decision → File → Call → ℕ → Ruling
ruling_of (Refuse status) file call now = bare status
ruling_of (Conflict reason) file call now = record (bare 409) { lock = lock_field file.lock; reason = Some reason }
ruling_of Accept file call now = acceptance call.act (effect file call now)

abbrev pub file_of : Decision → File → Call → ℕ → File
file_of Accept file call now = effect file call now
file_of _ file call now = file

abbrev pub store_fault : Ruling
store_fault = bare 500

-- The outcomes of a step on a settled file: what the table decides, or a store fault where an act that is to be stored was accepted.
abbrev pub IsOutcome : File → Call → ℕ → ℕ → Ruling → Type 0
IsOutcome file call opened now ruling =
    (ruling ≡ ruling_of (decision file call opened now) file call now)
    ⊎ ((decision file call opened now ≡ Accept) × (is_stored call.act ≡ true) × (ruling ≡ store_fault))

-- the file after a step with that ruling
abbrev pub after_step : File → Call → ℕ → ℕ → Ruling → File
after_step file call opened now ruling =
    if ruling.status == 500 then file else file_of (decision file call opened now) file call now
