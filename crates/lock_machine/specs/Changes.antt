-- What an act makes of a lock, where no id is copied for it.
use Rattle.std.specs.Prelude.{ℕ, List, Option, None, Some, option_map}
use Rattle.wopi_model.specs.declared.locks.Lock.{Lock}
use Rattle.wopi_model.specs.declared.locks.LockAct.{LockAct}
use Rattle.wopi_model.specs.declared.locks.LockAct.TheVariants as act
use Rattle.wopi_model.specs.declared.locks.Spent.{Spent}
use Rattle.lock_machine.specs.declared.change.Change.{Change}
use Rattle.lock_machine.specs.declared.change.Change.TheVariants as change

-- the id that an act takes, if it takes one (own)
abbrev pub taken_by : LockAct → Option (List ℕ)
taken_by (act.Lock id) = Some id
taken_by (act.Relock old id) = Some id
taken_by _ = None

-- the lock of these moments under that id
abbrev pub held_as : ℕ → ℕ → List ℕ → Lock
held_as since until id = record { id = id; since = since; until = until }

-- the lock that a change leaves of the one that stood, where that id is taken (own)
abbrev pub left_by : Change → Option Lock → Option (List ℕ) → Option Lock
left_by change.Ends lock taken = None
left_by (change.GoesOn since until) lock taken = option_map (λ held. held_as since until held.id) lock
left_by (change.Begins since until) lock taken = option_map (held_as since until) taken

-- the id of the lock that stood as spent, where it is spent until some moment (own)
abbrev pub spent_as : Option Lock → Option ℕ → Option Spent
spent_as None until = None
spent_as (Some held) until = option_map (λ end. record { id = held.id; until = end }) until
