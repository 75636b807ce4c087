use Rattle.std.proofs.Common.{◌∙◌}
use Rattle.replay_cmd.proofs.Watching.{called_for}
use Rattle.replay_cmd.proofs.watched.WatchedCaller.call_for_editor.Goals as goal

pub invariant_of-self : goal.invariant_of-self
invariant_of-self c =
    let (grown, stamped, same, names) = called_for c.self.inside.start.value c.self.inside.single.shard c.call_for_editor.new.self.shard c.args.call c.args.known c.args.moment
    c.call_for_editor.result c.self.invariant.0 c.self.invariant.1 c.self.invariant.3 c.as_slice-name.ensures.form c.call_for_editor.ensures.made c.call_for_editor.ensures.entry
    c.call_for_editor.ensures.none in
    (grown, stamped, c.self.invariant.2 ∙ same, names)
