use Rattle.std.proofs.Common.{◌≡◌}
use Rattle.turn_lock.specs.Steps.{IsSameSeat}
use Rattle.turn_lock.proofs.lock.TurnLock.fetch.Given as goal

abbrev pub invariant-loop : goal.invariant-loop
invariant-loop g l = IsSameSeat l.initial.place l.place × (l.place.me ≡ l.initial.place.me)
