use Rattle.std.proofs.Common.{◌≡◌, ◌+◌, ◌≤◌, ◌++◌, map, length, vec_len, vec_capacity}
use Rattle.std.specs.Vec.Iter.{into_iter_items, into_iter_len}
use Rattle.host_table.specs.Start.{folder_in}
use Rattle.host_table.proofs.stores.free_all.Given as goal

abbrev pub invariant-loop-store : goal.invariant-loop-store
invariant-loop-store g l = record {
  same : l.back.items ++ map folder_in (into_iter_items l.rest) ≡ map folder_in l.fn.stores.items;
  len : into_iter_len l.rest ≡ length (into_iter_items l.rest);
  room : vec_len l.back + into_iter_len l.rest ≤ vec_capacity l.back;
}

abbrev pub decreases-loop-store : goal.decreases-loop-store
decreases-loop-store g l = into_iter_len l.rest
