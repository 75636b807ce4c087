use Rattle.std.proofs.Common.{◌≡◌, ◌≤◌, ◌*◌, ◌^◌, take}
use Rattle.std.specs.Prelude.{sum_by}
use Rattle.replay_cmd.specs.Ends.{saved_by_one}
use Rattle.replay_cmd.proofs.counting.saved.Given as goal

abbrev pub invariant-loop-member : goal.invariant-loop-member
invariant-loop-member l = record {
  so_far : l.count ≡ sum_by saved_by_one (take l.member-index l.members);
  few : l.count ≤ l.member-index * 2 ^ 64;
}
