-- What an act asks of a lock, where its ids are only looked at.
use Rattle.std.specs.Prelude.{option_map}
use Rattle.wopi_model.specs.declared.locks.LockAct.{LockAct}
use Rattle.wopi_model.specs.declared.locks.LockAct.TheVariants as act
use Rattle.lock_machine.specs.declared.ask.LockAsk.{LockAsk}
use Rattle.lock_machine.specs.declared.ask.LockAsk.TheVariants as asks

-- the act that asks this (own)
abbrev pub act_of : LockAsk → LockAct
act_of (asks.Lock id) = act.Lock id.now
act_of asks.GetLock = act.GetLock
act_of (asks.Refresh id) = act.Refresh id.now
act_of (asks.Unlock id) = act.Unlock id.now
act_of (asks.Relock old id) = act.Relock old.now id.now
act_of (asks.Put id empty) = act.Put (option_map (λ id. id.now) id) empty
act_of asks.Delete = act.Delete
act_of (asks.Create exists overwrite) = act.Create exists overwrite
act_of asks.Look = act.Look
