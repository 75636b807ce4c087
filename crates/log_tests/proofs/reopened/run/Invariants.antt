use Rattle.std.proofs.Common.{◌≡◌, None}
use Rattle.log_tests.proofs.reopened.run.Given as goal

abbrev pub invariant-loop-place : goal.invariant-loop-place
invariant-loop-place g l = l.shard.only ≡ None
