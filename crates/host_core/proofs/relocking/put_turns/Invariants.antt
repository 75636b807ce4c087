use Rattle.std.proofs.Common.{◌≡◌, ◌≤◌, ◌-◌, length}
use Rattle.kept_locks.specs.Locks.{AreChained}
use Rattle.kept_locks.specs.Ties.{BeganBy}
use Rattle.host_core.specs.Going.{IsPartly}
use Rattle.host_core.proofs.relocking.put_turns.Given as goal

abbrev pub invariant-turns : goal.invariant-turns
invariant-turns l =
    (l.place ≤ length l.turns.items)
    × IsPartly l.told.items l.locks.files
    × BeganBy l.low l.locks.files
    × (length l.locks.files ≡ length l.initial.locks.files)
    × (l.locks.latest ≡ 0)
    × AreChained l.locks
    × (l.locks.room ≡ l.initial.locks.room)

abbrev pub decreases-turns : goal.decreases-turns
decreases-turns l = length l.turns.items - l.place
