use Rattle.std.proofs.Common.{◌≡◌, ◌≤◌, ◌-◌, length, max}
use Rattle.kept_locks.specs.Locks.{LeavesAll}
use Rattle.kept_locks.specs.Ties.{AreTied, IsReady, lefts_in, standings, spare_of, room_of, latest_of}
use Rattle.kept_locks.proofs.Purging.{PurgedTo}
use Rattle.kept_locks.proofs.places.purge_all.Given as goal

abbrev pub invariant-places : goal.invariant-places
invariant-places l = record {
  tied : AreTied l.places.items l.queue l.chains l.index;
  purged : PurgedTo l.fn.places.items l.places.items l.fn.chains l.chains l.at l.now;
  latest : latest_of l.places.items ≤ max (latest_of l.fn.places.items) l.now;
  spare : spare_of l.queue l.fn.chains ≤ spare_of l.queue l.chains;
  left : LeavesAll (lefts_in l.fn.places.items) (lefts_in l.places.items) (standings l.fn.chains l.fn.places.items);
  ready : IsReady l.fn.places.items l.queue l.fn.index → IsReady l.places.items l.queue l.index;
  room : room_of l.queue l.chains ≡ room_of l.queue l.fn.chains;
}

abbrev pub decreases-places : goal.decreases-places
decreases-places l = length l.places.items - l.at
