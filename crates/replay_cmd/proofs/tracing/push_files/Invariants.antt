use Rattle.std.proofs.Common.{◌≡◌, ◌++◌, take}
use Rattle.replay_cmd.specs.Ends.{ends_in}
use Rattle.replay_cmd.proofs.tracing.push_files.Given as goal

abbrev pub invariant-loop-place : goal.invariant-loop-place
invariant-loop-place l = l.text.items ≡ l.fn.text.items ++ ends_in l.host.shard (take l.place l.names)
