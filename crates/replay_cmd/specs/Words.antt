-- The words of a trace's lines. (Own.)
use Rattle.std.specs.Prelude.{ℕ, ◌+◌, List, [], ◌∷◌, ◌++◌, codes, decimal, Option, None, Some, unwrap_or, ◌==◌, if◌then◌else◌}
pub use Rattle.line_text.specs.Words.{hex_text}
use Rattle.wopi_text.specs.Ids.{id_of}
use Rattle.wopi_text.specs.Reasons.{reason_text}
use Rattle.wopi_text.specs.declared.reason.Reason.{Reason}
use Rattle.wopi_text.specs.declared.lock_field.LockField.{LockField}
use Rattle.wopi_text.specs.declared.lock_field.LockField.TheVariants as field
use Rattle.wopi_model.specs.declared.calls.Ruling.{Ruling}
use Rattle.wopi_model.specs.declared.locks.Lock.{Lock}
use Rattle.wopi_model.specs.File.{File}
use Rattle.wopi_model.specs.Step.{lock_field}
use Rattle.wopi_headers.specs.declared.ask.Op.{Op}
use Rattle.wopi_headers.specs.declared.ask.Op.TheVariants as op
use Rattle.wopi_headers.specs.declared.ask.Target.TheVariants.{Relative}
use Rattle.save_session.specs.declared.output.Output.{Output}
use Rattle.save_session.specs.declared.output.Output.TheVariants as output
use Rattle.save_session.specs.declared.output.Outcome.{Outcome}
use Rattle.save_session.specs.declared.output.Outcome.TheVariants as outcome

abbrev pub version_shown : Option ℕ → List ℕ
version_shown None = codes "-"
version_shown (Some version) = 118 ∷ decimal version

abbrev pub lock_shown : LockField → List ℕ
lock_shown (field.Held id) = id
lock_shown _ = codes "-"

abbrev pub reason_shown : Option Reason → List ℕ
reason_shown None = codes "-"
reason_shown (Some reason) = reason_text reason

-- words with single spaces between them
abbrev pub joined : List (List ℕ) → List ℕ
joined [] = []
joined (word ∷ []) = word
joined (word ∷ other ∷ words) = word ++ 32 ∷ joined (other ∷ words)

abbrev pub line_text : List (List ℕ) → List ℕ
line_text words = joined words ++ 10 ∷ []

-- an operation as it was sent, with its body
abbrev pub operation_shown : Op → List ℕ → List (List ℕ)
operation_shown (op.Lock id) body = codes "lock" ∷ id ∷ []
operation_shown (op.Get most) body = codes "get" ∷ []
operation_shown (op.Put (Some id)) body = codes "put" ∷ id ∷ hex_text body ∷ []
operation_shown (op.Relock old id) body = codes "relock" ∷ old ∷ id ∷ []
operation_shown (op.Refresh id) body = codes "refresh" ∷ id ∷ []
operation_shown (op.Unlock id) body = codes "unlock" ∷ id ∷ []
operation_shown _ body = codes "info" ∷ []

abbrev pub outcome_shown : Outcome → List (List ℕ)
outcome_shown (outcome.Opened version) = codes "opened" ∷ version_shown version ∷ []
outcome_shown (outcome.Read version) = codes "read" ∷ version_shown version ∷ []
outcome_shown (outcome.Saved version) = codes "saved" ∷ version_shown version ∷ []
outcome_shown outcome.Refreshed = codes "refreshed" ∷ []
outcome_shown outcome.Closed = codes "closed" ∷ []
outcome_shown (outcome.Conflict lock reason) = codes "conflict" ∷ lock_shown lock ∷ reason_shown reason ∷ []
outcome_shown (outcome.LockLost lock reason) = codes "lock lost" ∷ lock_shown lock ∷ reason_shown reason ∷ []
outcome_shown outcome.TooLarge = codes "too large" ∷ []
outcome_shown (outcome.HostFault status) = codes "host fault" ∷ decimal status ∷ []
outcome_shown outcome.TokenDead = codes "token dead" ∷ []
outcome_shown outcome.Gone = codes "gone" ∷ []
outcome_shown outcome.NoAnswer = codes "no answer" ∷ []

-- what the session at that place puts out, with that body, once so many requests were sent
abbrev pub output_shown : ℕ → ℕ → List ℕ → Output → List (List ℕ)
output_shown s count body (output.Send asked) = codes "send" ∷ decimal (count + 1) ∷ operation_shown asked body
output_shown s count body (output.Tell told) = codes "tell" ∷ decimal (s + 1) ∷ outcome_shown told
output_shown s count body (output.Ignored given) = codes "ignored" ∷ []

-- what an accepted operation shows of its ruling
abbrev pub accepted_shown : Op → Ruling → List (List ℕ)
accepted_shown op.Info ruling = version_shown ruling.version ∷ decimal ruling.size ∷ []
accepted_shown (op.Get most) ruling = version_shown ruling.version ∷ hex_text (unwrap_or ruling.contents []) ∷ []
accepted_shown (op.Put lock) ruling = version_shown ruling.version ∷ []
accepted_shown (op.Lock id) ruling = version_shown ruling.version ∷ []
accepted_shown (op.Relock old id) ruling = version_shown ruling.version ∷ []
accepted_shown (op.Unlock id) ruling = version_shown ruling.version ∷ []
accepted_shown op.GetLock ruling = lock_shown ruling.lock ∷ []
accepted_shown (op.PutRelative (Relative name overwrite)) ruling = id_of name ∷ []
accepted_shown _ ruling = []

abbrev pub ruling_shown : Op → Ruling → List (List ℕ)
ruling_shown asked ruling =
    if ruling.status == 409 then lock_shown ruling.lock ∷ reason_shown ruling.reason ∷ []
    else if ruling.status == 200 then accepted_shown asked ruling
    else []

-- a reply with that number
abbrev pub numbered_shown : ℕ → Op → Ruling → List (List ℕ)
numbered_shown number asked ruling = codes "reply" ∷ decimal number ∷ decimal ruling.status ∷ ruling_shown asked ruling

-- how a file is left
abbrev pub state_shown : Option Lock → Option (List ℕ) → List (List ℕ)
state_shown lock None = codes "absent" ∷ []
state_shown lock (Some contents) = lock_shown (lock_field lock) ∷ hex_text contents ∷ []

abbrev pub file_shown : List ℕ → File → List (List ℕ)
file_shown name file = codes "end" ∷ id_of name ∷ (118 ∷ decimal file.version) ∷ state_shown file.lock file.contents
