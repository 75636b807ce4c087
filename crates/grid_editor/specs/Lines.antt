-- The lines that an editor writes. (Own.)
use Rattle.std.specs.Prelude.{ℕ, List, [], ◌∷◌, ◌++◌, Option, Some, None, codes, decimal}
use Rattle.wopi_text.specs.declared.lock_field.LockField.{LockField}
use Rattle.wopi_text.specs.declared.lock_field.LockField.TheVariants as field
use Rattle.wopi_text.specs.declared.reason.Reason.{Reason}
use Rattle.wopi_text.specs.Reasons.{reason_text}
use Rattle.save_session.specs.declared.output.Outcome.{Outcome}
use Rattle.save_session.specs.declared.output.Outcome.TheVariants as outcome
use Rattle.grid_sheet.specs.declared.fault.GridFault.{GridFault}
use Rattle.grid_sheet.specs.declared.fault.GridFault.TheVariants as fault
use Rattle.grid_editor.specs.declared.turns.Went.{Went}
use Rattle.grid_editor.specs.declared.turns.Went.TheVariants.{On, Ended}

-- a version, or that there was none
abbrev pub version_text : Option ℕ → List ℕ
version_text (Some version) = 118 ∷ decimal version
version_text None = codes "-"

-- the lock that stands, or that none does
abbrev pub lock_text : LockField → List ℕ
lock_text (field.Held id) = id
lock_text field.Empty = codes "-"
lock_text field.Absent = codes "-"

abbrev pub why_text : Option Reason → List ℕ
why_text (Some reason) = reason_text reason
why_text None = codes "-"

-- words, a lock and a reason
abbrev pub lock_line : List ℕ → LockField → Option Reason → List ℕ
lock_line words lock reason = words ++ (lock_text lock ++ (32 ∷ (why_text reason ++ (10 ∷ []))))

-- words and a version
abbrev pub version_line : List ℕ → Option ℕ → List ℕ
version_line words version = words ++ (version_text version ++ (10 ∷ []))

-- the line of an outcome
abbrev pub outcome_line : Outcome → List ℕ
outcome_line (outcome.Opened version) = version_line (codes "opened ") version
outcome_line (outcome.Read version) = version_line (codes "read ") version
outcome_line (outcome.Saved version) = version_line (codes "saved ") version
outcome_line outcome.Refreshed = codes "refreshed\n"
outcome_line outcome.Closed = codes "closed\n"
outcome_line (outcome.Conflict lock reason) = lock_line (codes "conflict ") lock reason
outcome_line (outcome.LockLost lock reason) = lock_line (codes "lock lost ") lock reason
outcome_line outcome.TooLarge = codes "too large\n"
outcome_line (outcome.HostFault status) = codes "host fault " ++ (decimal status ++ (10 ∷ []))
outcome_line outcome.TokenDead = codes "token dead\n"
outcome_line outcome.Gone = codes "gone\n"
outcome_line outcome.NoAnswer = codes "no answer\n"

-- whether an outcome ends the script
abbrev pub went_of : Outcome → Went
went_of (outcome.Opened version) = On
went_of (outcome.Read version) = On
went_of (outcome.Saved version) = On
went_of outcome.Refreshed = On
went_of outcome.Closed = On
went_of told = Ended told

-- a sheet was opened, with so many rows
abbrev pub opened_line : Option ℕ → ℕ → List ℕ
opened_line version rows = codes "opened " ++ (version_text version ++ (32 ∷ (decimal rows ++ (10 ∷ []))))

-- a copy was saved under this name
abbrev pub copied_line : List ℕ → List ℕ
copied_line name = codes "saved as " ++ (name ++ (10 ∷ []))

-- what is written where a command is refused
abbrev pub not_open : List ℕ
not_open = codes "not open\n"

abbrev pub nothing_to_undo : List ℕ
nothing_to_undo = codes "nothing to undo\n"

abbrev pub refusal_line : GridFault → List ℕ
refusal_line fault.OutOfGrid = codes "out of grid\n"
refusal_line fault.TooMany = codes "too many\n"
refusal_line fault.Memory = []
