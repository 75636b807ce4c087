use Rattle.std.proofs.Common.{Some, ap, ◌∙◌}
use Rattle.wopi_program.proofs.WatchLemmas.{right_more_in, tells_none}
use Rattle.wopi_program.proofs.watching.tell_in.Goals as goal

pub returns-then-is_marked-clause-told : goal.returns-then-is_marked-clause-told
returns-then-is_marked-clause-told g c = tells_none _ _ _ _

pub returns-then-is_marked-clause-itself : goal.returns-then-is_marked-clause-itself
returns-then-is_marked-clause-itself g c = λ near. c.is_marked.ensures ∙ ap Some c.if-is_marked.true

pub tell_of-requires-clause-lowered : goal.tell_of-requires-clause-lowered
tell_of-requires-clause-lowered g c = c.is_marked.ensures ∙ ap Some c.if-is_marked.false

pub returns-else-is_nearly_full-clause-told : goal.returns-else-is_nearly_full-clause-told
returns-else-is_nearly_full-clause-told g c = tells_none _ _ _ _

pub returns-then-is_nearly_full-clause-right : goal.returns-then-is_nearly_full-clause-right
returns-then-is_nearly_full-clause-right g c =
    right_more_in c.args.capacity c.args.journal.now.parts c.args.marks.now c.tell_of.new.marks c.args.shard c.requires.right
    (c.is_nearly_full.ensures.0 c.if-is_nearly_full.true) c.tell_of.ensures.raised
