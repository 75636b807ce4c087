use Rattle.std.proofs.Common.{◌≡◌, ◌+◌, ◌-◌, length}
use Rattle.kept_locks.specs.Locks.{places_at}
use Rattle.kept_locks.specs.Ties.{standings}
use Rattle.kept_locks.proofs.Placing.{behind}
use Rattle.kept_locks.proofs.places.count_places.Given as goal

abbrev pub invariant-places : goal.invariant-places
invariant-places l = l.count + places_at l.now (standings l.chains (behind l.at l.places)) ≡ places_at l.now (standings l.chains l.places)

abbrev pub decreases-places : goal.decreases-places
decreases-places l = length l.places - l.at
