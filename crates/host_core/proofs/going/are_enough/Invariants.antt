use Rattle.std.proofs.Common.{◌≡◌, ◌≤◌, ◌-◌, ◌+◌, length, take}
use Rattle.host_core.specs.Going.{ids_told}
use Rattle.host_core.proofs.going.are_enough.Given as goal

abbrev pub invariant-told : goal.invariant-told
invariant-told l = (l.place ≤ length l.told.items) × (l.left + ids_told (take l.place l.told.items) ≡ l.ids)

abbrev pub decreases-told : goal.decreases-told
decreases-told l = length l.told.items - l.place
