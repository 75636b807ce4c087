use Rattle.std.proofs.Common.{◌≡◌, take}
use Rattle.host_core.specs.Value.{state_of}
use Rattle.wopi_world.specs.History.{greatest}
use Rattle.replay_cmd.proofs.watched.Watched.greatest.Given as goal

abbrev pub invariant-loop-place : goal.invariant-loop-place
invariant-loop-place l = l.greatest ≡ greatest (state_of l.self.shard.begin l.self.shard.made l.self.shard.time) (take l.place l.names)
