use Rattle.std.proofs.Common.{subst}
use Rattle.schedule_text.specs.Schedules.{Lines}
use Rattle.replay_cmd.specs.Trace.{summary_text}
use Rattle.wopi_program.specs.Replay.{Replays}
use Rattle.wopi_program.proofs.replay.replay_generated.Goals as goal

pub returns-clause-replays : goal.returns-clause-replays
returns-clause-replays g c =
    subst (λ (l : Lines). Replays g.K.Sink.held summary_text l c.write_summary.result c.args.output.now c.write_summary.new.output) c.in-Ok.ensures c.write_summary.ensures.replays
