-- Acts that take no memory.
use Rattle.std.proofs.Common.{◌≡◌, true, false, refl}
use Rattle.wopi_model.specs.declared.calls.Act.{Act}
use Rattle.wopi_model.specs.declared.calls.Act.TheVariants as act
use Rattle.wopi_model.specs.Act.{is_create, is_stored}
use Rattle.host_core.specs.LockActs.{is_lock_act}

pub stored_takes : (asked : Act) → is_stored asked ≡ true → is_lock_act asked ≡ false
stored_takes act.Info e = refl
stored_takes (act.Get most) e = refl
stored_takes (act.Put lock contents) e = refl
stored_takes (act.Lock id) e = absurd (cc)
stored_takes act.GetLock e = absurd (cc)
stored_takes (act.Refresh id) e = absurd (cc)
stored_takes (act.Unlock id) e = absurd (cc)
stored_takes (act.Relock old id) e = absurd (cc)
stored_takes act.Look e = refl
stored_takes (act.Create overwrite contents) e = refl
stored_takes act.Delete e = refl

pub create_takes : (asked : Act) → is_create asked ≡ true → is_lock_act asked ≡ false
create_takes act.Info e = refl
create_takes (act.Get most) e = refl
create_takes (act.Put lock contents) e = refl
create_takes (act.Lock id) e = absurd (cc)
create_takes act.GetLock e = absurd (cc)
create_takes (act.Refresh id) e = absurd (cc)
create_takes (act.Unlock id) e = absurd (cc)
create_takes (act.Relock old id) e = absurd (cc)
create_takes act.Look e = refl
create_takes (act.Create overwrite contents) e = refl
create_takes act.Delete e = refl
