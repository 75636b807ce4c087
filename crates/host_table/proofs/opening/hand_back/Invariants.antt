use Rattle.std.proofs.Common.{◌≡◌, ◌+◌, ◌≤◌, ◌++◌, List, map, length, vec_len, vec_capacity}
use Rattle.std.specs.Vec.Iter.{into_iter_items, into_iter_len}
use Rattle.host_core.specs.Value.{Book}
use Rattle.host_table.specs.Start.{start_of, log_in, AreNew, AreHanded}
use Rattle.host_table.proofs.opening.hand_back.Given as goal

abbrev pub invariant-loop-held : goal.invariant-loop-held
invariant-loop-held g l = let F = g.row.F.Denot in let f = g.F.Store in record {
  new : AreNew (into_iter_items l.rest);
  len : into_iter_len l.rest ≡ length (into_iter_items l.rest);
  room : vec_len l.back + into_iter_len l.rest ≤ vec_capacity l.back;
  capacity : vec_capacity l.back ≡ vec_capacity l.initial.back;
  count : vec_len l.back + into_iter_len l.rest ≡ vec_len l.initial.back + vec_len l.fn.shards;
  handed : (done : List (Book F)) × (handed : List F) × (l.fn.shards.items ≡ done ++ into_iter_items l.rest) × (l.back.items ≡ l.initial.back.items ++ handed) × AreHanded f.files f.faults (map start_of done) handed × (map (log_in f.notes) handed ≡ map (log_in f.notes) (map start_of done));
}

abbrev pub decreases-loop-held : goal.decreases-loop-held
decreases-loop-held g l = into_iter_len l.rest
