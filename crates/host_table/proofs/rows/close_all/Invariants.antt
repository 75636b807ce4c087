use Rattle.std.proofs.Common.{◌≡◌, ◌+◌, ◌≤◌, ◌++◌, List, map, length, vec_len, vec_capacity}
use Rattle.std.specs.Vec.Iter.{into_iter_items, into_iter_len}
use Rattle.host_core.specs.Value.{Book}
use Rattle.host_table.specs.Passes.{Place, lock_of}
use Rattle.host_table.specs.Rows.{CanClose, AreEnds}
use Rattle.host_table.proofs.rows.close_all.Given as goal

abbrev pub invariant-loop-lock : goal.invariant-loop-lock
invariant-loop-lock g l = let F = g.row.F.Denot in record {
  same : map lock_of (into_iter_items l.rest_seats) ≡ into_iter_items l.rest_locks;
  whole : CanClose (into_iter_items l.rest_seats);
  long : into_iter_len l.rest_locks ≡ length (into_iter_items l.rest_locks);
  wide : into_iter_len l.rest_seats ≡ length (into_iter_items l.rest_seats);
  room : vec_len l.shards + into_iter_len l.rest_locks ≤ vec_capacity l.shards;
  capacity : vec_capacity l.shards ≡ vec_capacity l.initial.shards;
  count : vec_len l.shards + into_iter_len l.rest_locks ≡ vec_len l.initial.shards + vec_len l.fn.locks;
  ended : (done : List (Place F)) × (ended : List (Book F)) × (l.fn.seats.items ≡ done ++ into_iter_items l.rest_seats) × (l.shards.items ≡ l.initial.shards.items ++ ended) × AreEnds done ended;
}

abbrev pub decreases-loop-lock : goal.decreases-loop-lock
decreases-loop-lock g l = into_iter_len l.rest_locks
