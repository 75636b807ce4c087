-- What a step makes of the locks.
use Rattle.std.specs.Prelude.{◌≡◌, ◌≢◌, ◌⊎◌, ⊤, ℕ, ◌+◌, ◌≤◌, ◌<◌, Bool, List, length, Option, None, Some, if◌then◌else◌}
use Rattle.wopi_model.specs.declared.locks.Lock.{Lock}
use Rattle.wopi_model.specs.Settle.{standing}
use Rattle.lock_machine.specs.Changes.{left_by}
use Rattle.kept_locks.specs.Locks.{Standing, Locks, AreChained, all_ended, all_purged, ended_at, purged_at}
use Rattle.kept_locks.specs.Ties.{BeganBy}
use Rattle.host_core.specs.Whole.{standing_at}
use Rattle.host_core.specs.declared.held.Effect.{Effect}

-- The locks as of a moment: no lock began and no file was stepped later. So each file's chain, without the ids that are over
-- at that moment, is its spent list without those.
pub record AreAsOf (now : ℕ) (locks : Locks) : Type 0 where
  pub began : BeganBy now locks.files
  pub stepped : locks.latest ≤ now
  pub chains : AreChained locks

-- a file may be stepped
pub record MayStep (locks : Locks) (number now : ℕ) : Type 0 where
  pub here : number < length locks.files
  pub spare : 1 ≤ locks.spare
  pub as_of : AreAsOf now locks

-- a lock that began now, or goes on from when the old one began
abbrev pub LockFollows : Option Lock → Option Lock → ℕ → Type 0
LockFollows old None now = ⊤
LockFollows None (Some lock) now = lock.since ≡ now
LockFollows (Some old) (Some lock) now = (old.since ≡ lock.since) ⊎ (lock.since ≡ now)

-- what a step may make of a lock, where that id is taken
abbrev pub Ends : Option Lock → Option (List ℕ) → Effect → ℕ → Type 0
Ends old taken effect now = LockFollows (standing old now) (left_by effect.change (standing old now) taken) now

-- no lock is there that is over at that moment
abbrev pub AllStand : ℕ → List Standing → Type 0
AllStand now files = (number : ℕ) → standing (standing_at files number).lock now ≡ (standing_at files number).lock

-- a file whose lock has ended where it is over, and of whose ids those may have gone that are over
abbrev pub gone_at : Bool → ℕ → Standing → Standing
gone_at purged now file = if purged then purged_at now (ended_at now file) else ended_at now file

abbrev pub all_gone : Bool → ℕ → List Standing → List Standing
all_gone purged now files = if purged then all_purged now (all_ended now files) else all_ended now files

-- the locks that were over have ended, and one file was stepped
pub record Turns (old new : Locks) (number now : ℕ) : Type 0 where
  pub others : (other : ℕ) → other ≢ number → standing_at new.files other ≡ ended_at now (standing_at old.files other)
  pub long : length new.files ≡ length old.files
  pub as_of : AreAsOf now new
  pub stand : AllStand now new.files
  pub spare : old.spare ≤ new.spare + 1
  pub room : new.room ≡ old.room
