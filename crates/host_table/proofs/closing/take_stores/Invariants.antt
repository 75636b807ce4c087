use Rattle.std.proofs.Common.{◌≡◌, ◌+◌, ◌≤◌, ◌++◌, List, length, vec_len, vec_capacity}
use Rattle.std.specs.Vec.Iter.{into_iter_items, into_iter_len}
use Rattle.host_core.specs.Value.{Book}
use Rattle.host_table.specs.Close.{AreGiven}
use Rattle.host_table.proofs.closing.take_stores.Given as goal

abbrev pub invariant-loop-held : goal.invariant-loop-held
invariant-loop-held g l = let F = g.row.F.Denot in let f = g.F.Store in record {
  len : into_iter_len l.rest ≡ length (into_iter_items l.rest);
  room : vec_len l.stores + into_iter_len l.rest ≤ vec_capacity l.stores;
  given : (done : List (Book F)) × (l.fn.shards.items ≡ done ++ into_iter_items l.rest) × AreGiven f.files f.faults f.notes done l.stores.items;
}

abbrev pub decreases-loop-held : goal.decreases-loop-held
decreases-loop-held g l = into_iter_len l.rest
