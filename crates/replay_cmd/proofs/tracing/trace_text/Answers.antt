use Rattle.std.proofs.Common.{sym, subst, arith}
use Rattle.replay_cmd.specs.Trace.{trace_text}
use Rattle.replay_cmd.specs.Worlds.{IsTextOf}
use Rattle.replay_cmd.proofs.Ended.{trace_told}
use Rattle.replay_cmd.proofs.tracing.trace_text.Goals as goal

pub returns : goal.returns
returns c =
    λ lines run.
    subst (IsTextOf trace_text lines) (sym c.from_vec.ensures)
    (trace_told lines c.args.world.now run c.in_ok-text.text.items c.push_ends.new.text.items (grind arith) c.in_ok-push_ends.ensures)
