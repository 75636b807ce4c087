use Rattle.std.proofs.Common.{◌≡◌, ◌+◌, ◌≤◌, ◌++◌, length, vec_len, vec_capacity}
use Rattle.std.specs.Vec.Iter.{into_iter_items, into_iter_len}
use Rattle.host_table.proofs.opening.move_all.Given as goal

abbrev pub invariant-loop-item : goal.invariant-loop-item
invariant-loop-item g l = record {
  same : l.into.items ++ into_iter_items l.rest ≡ l.initial.into.items ++ into_iter_items l.initial.rest;
  len : into_iter_len l.rest ≡ length (into_iter_items l.rest);
  room : vec_len l.into + into_iter_len l.rest ≤ vec_capacity l.into;
}

abbrev pub decreases-loop-item : goal.decreases-loop-item
decreases-loop-item g l = into_iter_len l.rest
