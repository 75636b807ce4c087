-- The texts of the reasons of a 409. (Own: MS-WOPI leaves the text of X-WOPI-LockFailureReason to the host.)
use Rattle.std.specs.Prelude.{ℕ, List, Option, Some, None, codes, if◌then◌else◌}
use Rattle.std.specs.Str.{bytes_eq}
use Rattle.wopi_text.specs.declared.reason.Reason.{Reason}
use Rattle.wopi_text.specs.declared.reason.Reason.TheVariants.{Locked, NotLocked, Spent, Taken, Changed}

abbrev pub reason_text : Reason → List ℕ
reason_text Locked = codes "locked"
reason_text NotLocked = codes "not locked"
reason_text Spent = codes "lock id spent"
reason_text Taken = codes "name taken"
reason_text Changed = codes "file changed since"

-- the reason with this text
abbrev pub reason_of : List ℕ → Option Reason
reason_of bytes =
    if bytes_eq bytes (codes "locked") then Some Locked
    else if bytes_eq bytes (codes "not locked") then Some NotLocked
    else if bytes_eq bytes (codes "lock id spent") then Some Spent
    else if bytes_eq bytes (codes "name taken") then Some Taken
    else if bytes_eq bytes (codes "file changed since") then Some Changed
    else None
