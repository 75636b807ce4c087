-- What a request asks of one file.
use Rattle.std.specs.Prelude.{ℕ, Bool, true, false, ◌||◌, List, Some}
use Rattle.std.specs.List.{list_any}
use Rattle.std.specs.Str.{bytes_eq}
use Rattle.wopi_model.specs.declared.calls.Act.{Act}
use Rattle.wopi_model.specs.declared.calls.Act.TheVariants as act
use Rattle.wopi_model.specs.declared.locks.LockAct.TheVariants as asks
use Rattle.wopi_model.specs.declared.locks.Spent.{Spent}
use Rattle.wopi_model.specs.File.{File, exists, is_empty}
use Rattle.wopi_model.specs.declared.locks.LockAct.{LockAct}

-- the act as the lock table sees it
abbrev pub lock_act : File → Act → LockAct
lock_act file act.Info = asks.Look
lock_act file (act.Get most) = asks.Look
lock_act file (act.Put lock contents) = asks.Put lock (is_empty file)
lock_act file (act.Lock id) = asks.Lock id
lock_act file act.GetLock = asks.GetLock
lock_act file (act.Refresh id) = asks.Refresh id
lock_act file (act.Unlock id) = asks.Unlock id
lock_act file (act.Relock old id) = asks.Relock old id
lock_act file act.Look = asks.Look
lock_act file (act.Create overwrite contents) = asks.Create (exists file) overwrite
lock_act file act.Delete = asks.Delete

abbrev pub is_spent : List Spent → List ℕ → Bool
is_spent spent id = list_any (λ one. bytes_eq one.id id) spent

-- an id that the act presents is spent
abbrev pub presents_spent : List Spent → Act → Bool
presents_spent spent (act.Lock id) = is_spent spent id
presents_spent spent (act.Refresh id) = is_spent spent id
presents_spent spent (act.Unlock id) = is_spent spent id
presents_spent spent (act.Relock old id) = is_spent spent old || is_spent spent id
presents_spent spent (act.Put (Some id) contents) = is_spent spent id
presents_spent spent _ = false

abbrev pub is_create : Act → Bool
is_create (act.Create overwrite contents) = true
is_create _ = false

-- acts that a token without the right to write may not ask
abbrev pub needs_write : Act → Bool
needs_write act.Info = false
needs_write (act.Get most) = false
needs_write act.GetLock = false
needs_write _ = true

-- acts that the store takes part in
abbrev pub is_stored : Act → Bool
is_stored (act.Put lock contents) = true
is_stored (act.Create overwrite contents) = true
is_stored act.Delete = true
is_stored _ = false
