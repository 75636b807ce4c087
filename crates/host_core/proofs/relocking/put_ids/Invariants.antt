use Rattle.std.proofs.Common.{◌≡◌, ◌≢◌, ◌≤◌, ◌<◌, ℕ, None, length, drop}
use Rattle.kept_locks.specs.Locks.{AreChained}
use Rattle.host_core.specs.Going.{IsFreeOf}
use Rattle.host_core.specs.Whole.{standing_at}
use Rattle.host_core.proofs.relocking.put_ids.Given as goal

abbrev pub invariant-spent : goal.invariant-spent
invariant-spent l =
    (l.place ≤ length l.spent.items)
    × (standing_at l.locks.files l.number ≡ record { lock = None; spent = drop l.place l.spent.items })
    × ((other : ℕ) → other ≢ l.number → standing_at l.locks.files other ≡ standing_at l.initial.locks.files other)
    × IsFreeOf l.locks.files
    × (length l.locks.files ≡ length l.initial.locks.files)
    × (l.locks.latest ≡ 0)
    × AreChained l.locks
    × (l.locks.room ≡ l.initial.locks.room)

abbrev pub decreases-spent : goal.decreases-spent
decreases-spent l = l.place
