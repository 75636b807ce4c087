use Rattle.std.proofs.Common.{◌≡◌, ◌+◌, ◌≤◌, [], ◌++◌, List, length, vec_len, vec_capacity}
use Rattle.std.specs.Vec.Iter.{into_iter_items, into_iter_len}
use Rattle.host_core.specs.declared.life.Life.{Life}
use Rattle.host_table.specs.Reopen.{AllGoOn}
use Rattle.host_table.proofs.reopening.reopen_all.Given as goal

abbrev pub invariant-loop-folder : goal.invariant-loop-folder
invariant-loop-folder g l = let F = g.row.F.Denot in let f = g.F.Store in record {
  len : into_iter_len l.rest ≡ length (into_iter_items l.rest);
  told_len : into_iter_len l.told ≡ length (into_iter_items l.told);
  same : into_iter_len l.told ≡ into_iter_len l.rest;
  count : vec_len l.shards + into_iter_len l.rest ≡ 16;
  room : 16 ≤ vec_capacity l.shards;
  empty : l.back.items ≡ [];
  capacity : vec_capacity l.back ≡ vec_capacity l.initial.back;
  going : (lives : List Life) × (done : List F) × (l.fn.lives.items ≡ lives ++ into_iter_items l.told) × (l.fn.folders.items ≡ done ++ into_iter_items l.rest) × AllGoOn f.files f.times f.faults f.notes l.ids 0 lives done l.shards.items;
}

abbrev pub decreases-loop-folder : goal.decreases-loop-folder
decreases-loop-folder g l = into_iter_len l.rest
