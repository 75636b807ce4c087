use Rattle.std.proofs.Common.{◌≡◌, ◌≤◌, ◌-◌, ℕ, length}
use Rattle.kept_locks.specs.Locks.{unlocked}
use Rattle.host_core.specs.Turns.{AreAsOf}
use Rattle.host_core.specs.Whole.{standing_at}
use Rattle.host_core.proofs.room.add_files.Given as goal

abbrev pub invariant-count : goal.invariant-count
invariant-count l =
    ((number : ℕ) → standing_at l.locks.files number ≡ unlocked)
    × AreAsOf 0 l.locks
    × (l.count ≤ length l.locks.files)
    × (l.locks.spare ≡ l.initial.locks.spare)
    × (l.locks.room ≡ l.initial.locks.room)

abbrev pub decreases-count : goal.decreases-count
decreases-count l = l.files - l.count
