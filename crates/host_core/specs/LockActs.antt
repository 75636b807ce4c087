-- Which acts are about locks alone: these take no memory.
use Rattle.std.specs.Prelude.{Bool, true, false}
use Rattle.wopi_model.specs.declared.calls.Act.{Act}
use Rattle.wopi_model.specs.declared.calls.Act.TheVariants as act

-- Lock, GetLock, RefreshLock, Unlock and UnlockAndRelock
abbrev pub is_lock_act : Act → Bool
is_lock_act (act.Lock id) = true
is_lock_act act.GetLock = true
is_lock_act (act.Refresh id) = true
is_lock_act (act.Unlock id) = true
is_lock_act (act.Relock old id) = true
is_lock_act _ = false
