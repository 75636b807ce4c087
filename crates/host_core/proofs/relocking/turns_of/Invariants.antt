use Rattle.std.proofs.Common.{◌≤◌, ◌-◌, length}
use Rattle.host_core.proofs.relocking.turns_of.Given as goal

abbrev pub invariant-told : goal.invariant-told
invariant-told l = l.place ≤ length l.told.items

abbrev pub decreases-told : goal.decreases-told
decreases-told l = length l.told.items - l.place
