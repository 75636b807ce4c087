use Rattle.std.proofs.Common.{◌≡◌, ◌≢◌, ◌≤◌, ◌<◌, ◌-◌, ℕ, None, length}
use Rattle.kept_locks.specs.Locks.{AreChained}
use Rattle.host_core.proofs.Regains.{HoldsSome}
use Rattle.host_core.proofs.relocking.put_all_ids.Given as goal

abbrev pub invariant-told : goal.invariant-told
invariant-told l =
    (l.place ≤ length l.told.items)
    × HoldsSome l.place l.told.items l.locks.files
    × (length l.locks.files ≡ length l.initial.locks.files)
    × (l.locks.latest ≡ 0)
    × AreChained l.locks
    × (l.locks.room ≡ l.initial.locks.room)

abbrev pub decreases-told : goal.decreases-told
decreases-told l = length l.told.items - l.place
