use Rattle.std.proofs.Common.{◌≡◌, ◌++◌, List, length, vec_len}
use Rattle.std.specs.Vec.Iter.{into_iter_items, into_iter_len}
use Rattle.host_table.specs.Passes.{Place}
use Rattle.host_table.specs.Close.{AreJoined}
use Rattle.host_table.proofs.closing.join_row.Given as goal

abbrev pub invariant-loop-i : goal.invariant-loop-i
invariant-loop-i g l = let F = g.row.F.Denot in record {
  len : into_iter_len l.rest ≡ length (into_iter_items l.rest);
  long : vec_len l.seats ≡ vec_len l.initial.seats;
  split : (done : List (Place F)) × (left : List (Place F)) × (others : List (Place F)) × (joined : List (Place F)) × (l.initial.seats.items ≡ done ++ left) × (l.fn.others.items ≡ others ++ into_iter_items l.rest)
      × (l.seats.items ≡ joined ++ left) × AreJoined done others joined × (length joined ≡ l.i) × (length done ≡ l.i) × (length others ≡ l.i);
}
