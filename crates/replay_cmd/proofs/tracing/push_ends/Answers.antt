use Rattle.replay_cmd.proofs.Ended.{met_names}
use Rattle.replay_cmd.proofs.tracing.push_ends.Goals as goal

pub push_files-requires : goal.push_files-requires
push_files-requires c = met_names c.args.host.now.shard c.in_ok-names.names c.in_ok-names.ensures
