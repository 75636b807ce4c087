use Rattle.std.proofs.Common.{◌≡◌, ◌+◌, ◌++◌, take, vec_len, vec_capacity}
use Rattle.host_table.specs.Journal.{spots_from}
use Rattle.host_table.proofs.closing.list_spots.Given as goal

abbrev pub invariant-loop-place : goal.invariant-loop-place
invariant-loop-place g l = record {
  listed : l.spots.items ≡ l.initial.spots.items ++ spots_from l.shard 0 (take l.place l.past.made);
  len : vec_len l.spots ≡ vec_len l.initial.spots + l.place;
  capacity : vec_capacity l.spots ≡ vec_capacity l.initial.spots;
}
