use Rattle.std.proofs.Common.{◌≡◌, ◌+◌, ◌≤◌, [], ◌++◌, List, map, length, vec_len, vec_capacity}
use Rattle.std.specs.Vec.Iter.{into_iter_items, into_iter_len}
use Rattle.host_core.specs.Value.{Book}
use Rattle.host_table.specs.Histories.{as_opened}
use Rattle.host_table.specs.Start.{first_seats, AreNew}
use Rattle.host_table.proofs.opening.lock_all.Given as goal

abbrev pub invariant-loop-held : goal.invariant-loop-held
invariant-loop-held g l = let F = g.row.F.Denot in record {
  len : into_iter_len l.rest ≡ length (into_iter_items l.rest);
  new : AreNew (into_iter_items l.rest);
  count : vec_len l.locks + into_iter_len l.rest ≡ 16;
  same : vec_len l.seats ≡ vec_len l.locks;
  room : 16 ≤ vec_capacity l.locks;
  room_seats : 16 ≤ vec_capacity l.seats;
  room_back : 16 ≤ vec_capacity l.back;
  empty : l.back.items ≡ [];
  locked : (done : List (Book F)) × (l.fn.shards.items ≡ done ++ into_iter_items l.rest) × (l.seats.items ≡ first_seats l.locks.items (map as_opened done)) × (length done ≡ length l.locks.items);
}

abbrev pub decreases-loop-held : goal.decreases-loop-held
decreases-loop-held g l = into_iter_len l.rest
