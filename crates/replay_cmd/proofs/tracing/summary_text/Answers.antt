use Rattle.std.proofs.Common.{sym, subst, arith}
use Rattle.replay_cmd.specs.Trace.{summary_text}
use Rattle.replay_cmd.specs.Worlds.{IsTextOf}
use Rattle.replay_cmd.proofs.Ended.{summary_told}
use Rattle.replay_cmd.proofs.tracing.summary_text.Goals as goal

pub returns : goal.returns
returns c =
    λ lines run.
    subst (IsTextOf summary_text lines) (sym c.from_vec.ensures)
    (summary_told lines c.args.world.now run c.push_counts.new.text.items c.push_ends.new.text.items (grind arith) c.in_ok-push_ends.ensures)
