use Rattle.std.proofs.Common.{◌≡◌, ◌+◌, ◌≤◌, ◌++◌, map, length, vec_len, vec_capacity}
use Rattle.std.specs.Vec.Iter.{into_iter_items, into_iter_len}
use Rattle.host_table.specs.Start.{folder_in}
use Rattle.host_table.proofs.stores.keep_all.Given as goal

abbrev pub invariant-loop-folder : goal.invariant-loop-folder
invariant-loop-folder g l = record {
  same : map folder_in l.stores.items ++ into_iter_items l.rest ≡ l.fn.folders.items;
  len : into_iter_len l.rest ≡ length (into_iter_items l.rest);
  room : vec_len l.stores + into_iter_len l.rest ≤ vec_capacity l.stores;
}

abbrev pub decreases-loop-folder : goal.decreases-loop-folder
decreases-loop-folder g l = into_iter_len l.rest
