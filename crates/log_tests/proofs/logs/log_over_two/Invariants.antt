use Rattle.std.proofs.Common.{◌≡◌, None}
use Rattle.log_tests.proofs.logs.log_over_two.Given as goal

abbrev pub invariant-loop-place : goal.invariant-loop-place
invariant-loop-place g l = l.shard.only ≡ None
