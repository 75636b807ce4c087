use Rattle.std.proofs.Common.{◌∙◌}
use Rattle.replay_cmd.proofs.Watching.{called}
use Rattle.replay_cmd.proofs.watched.WatchedCaller.call_at.Goals as goal

pub invariant_of-self : goal.invariant_of-self
invariant_of-self c =
    let (grown, stamped, same, names) = called c.self.inside.start.value c.self.inside.single.shard c.call_at.new.self.shard c.args.call.now c.call_at.new.call c.args.moment c.call_at.new.carried c.call_at.result
    c.self.invariant.0 c.self.invariant.1 c.self.invariant.3 c.as_slice-name.ensures.form c.call_at.ensures.made c.call_at.ensures.entry c.call_at.ensures.none in
    (grown, stamped, c.self.invariant.2 ∙ same, names)
