-- The lock table: which acts a lock lets through, and what they do to it.
use Rattle.std.specs.Prelude.{ℕ, max, Bool, true, false, not, ◌&&◌, Option, None, Some, is_some, is_none, if◌then◌else◌}
use Rattle.std.specs.Str.{bytes_eq}
use Rattle.wopi_text.specs.declared.reason.Reason.TheVariants as reason
use Rattle.wopi_model.specs.declared.locks.Lock.{Lock}
use Rattle.wopi_model.specs.declared.locks.Spent.{Spent}
use Rattle.wopi_model.specs.declared.locks.LockAct.{LockAct}
use Rattle.wopi_model.specs.declared.locks.LockAct.TheVariants as act
use Rattle.wopi_model.specs.declared.locks.Verdict.{Verdict}
use Rattle.wopi_model.specs.declared.locks.Verdict.TheVariants as says
use Rattle.wopi_model.specs.declared.locks.Judged.{Judged}

-- acts that go through only under a lock
abbrev pub needs_lock : LockAct → Bool
needs_lock (act.Refresh id) = true
needs_lock (act.Unlock id) = true
needs_lock (act.Relock old id) = true
needs_lock (act.Put id empty) = not empty
needs_lock _ = false

-- the lock stands in the act's way: the act uses another id or none
abbrev pub is_locked_out : Option Lock → LockAct → Bool
is_locked_out None asked = false
is_locked_out (Some lock) (act.Lock id) = not (bytes_eq id lock.id)
is_locked_out (Some lock) (act.Refresh id) = not (bytes_eq id lock.id)
is_locked_out (Some lock) (act.Unlock id) = not (bytes_eq id lock.id)
is_locked_out (Some lock) (act.Relock old id) = not (bytes_eq old lock.id)
is_locked_out (Some lock) (act.Put (Some id) empty) = not (bytes_eq id lock.id)
is_locked_out (Some lock) (act.Put None empty) = true
is_locked_out (Some lock) act.Delete = true
is_locked_out (Some lock) _ = false

-- the target is there, and may not be replaced
abbrev pub is_name_taken : LockAct → Bool
is_name_taken (act.Create exists overwrite) = exists && not overwrite
is_name_taken _ = false

abbrev pub is_replacing : LockAct → Bool
is_replacing (act.Create exists overwrite) = exists && overwrite
is_replacing _ = false

-- What the table says of the act, by the first row that applies. `spent`: an id that the act presents is spent.
abbrev pub verdict : Option Lock → Bool → LockAct → Verdict
verdict lock spent asked =
    if spent then says.Refuse reason.Spent
    else if is_none lock && needs_lock asked then says.Refuse reason.NotLocked
    else if is_locked_out lock asked then says.Refuse reason.Locked
    else if is_name_taken asked then says.Refuse reason.Taken
    else if is_some lock && is_replacing asked then says.Refuse reason.Locked
    else says.Accept

-- begun anew, and spent no earlier than the token expires
abbrev pub refreshed : Lock → ℕ → ℕ → Lock
refreshed lock expires now = record lock { since = now; until = max lock.until expires }

-- the lock after an act that went through
abbrev pub lock_after : Option Lock → LockAct → ℕ → ℕ → Option Lock
lock_after None (act.Lock id) expires now = Some (record { id = id; since = now; until = expires })
lock_after (Some lock) (act.Lock id) expires now = Some (refreshed lock expires now)
lock_after (Some lock) (act.Refresh id) expires now = Some (refreshed lock expires now)
lock_after (Some lock) (act.Unlock id) expires now = None
lock_after (Some lock) (act.Relock old id) expires now =
    if bytes_eq old id then Some (refreshed lock expires now)
    else Some (record { id = id; since = now; until = expires })
lock_after (Some lock) (act.Put id empty) expires now = Some (record lock { until = max lock.until expires })
lock_after lock asked expires now = lock

-- the id that an act which went through spends
abbrev pub spent_by : Option Lock → LockAct → ℕ → Option Spent
spent_by (Some lock) (act.Unlock id) expires = Some (record { id = lock.id; until = lock.until })
spent_by (Some lock) (act.Relock old id) expires =
    if bytes_eq old id then None else Some (record { id = lock.id; until = max lock.until expires })
spent_by lock asked expires = None

abbrev pub is_accepted : Verdict → Bool
is_accepted says.Accept = true
is_accepted (says.Refuse reason) = false

-- the verdict, the lock then, and the id that is spent
abbrev pub judged : Option Lock → Bool → LockAct → ℕ → ℕ → Judged
judged lock spent asked expires now =
    let said = verdict lock spent asked in
    record {
      verdict = said;
      lock = if is_accepted said then lock_after lock asked expires now else lock;
      spend = if is_accepted said then spent_by lock asked expires else None;
    }
