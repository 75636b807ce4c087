use Rattle.std.proofs.Common.{Some, ap, ◌∙◌}
use Rattle.host_table.specs.Passes.{sight_of}
use Rattle.wopi_program.proofs.WatchLemmas.{right_later, right_more, tells_none}
use Rattle.wopi_program.proofs.watching.look_at.Goals as goal

pub returns-then-is_marked-clause-told : goal.returns-then-is_marked-clause-told
returns-then-is_marked-clause-told g c = tells_none _ _ _ _

pub tell_of-requires-clause-lowered : goal.tell_of-requires-clause-lowered
tell_of-requires-clause-lowered g c = c.is_marked.ensures ∙ ap Some c.if-is_marked.false

pub returns-else-is_nearly_full-clause-told : goal.returns-else-is_nearly_full-clause-told
returns-else-is_nearly_full-clause-told g c = tells_none _ _ _ _

pub returns-else-is_nearly_full-clause-right : goal.returns-else-is_nearly_full-clause-right
returns-else-is_nearly_full-clause-right g c = right_later _ _ _ _ c.is_nearly_full.ensures.looks c.requires.right

pub returns-then-is_nearly_full-clause-right : goal.returns-then-is_nearly_full-clause-right
returns-then-is_nearly_full-clause-right g c =
    right_more c.args.marks.now c.tell_of.new.marks (sight_of c.is_nearly_full.new.pass) c.args.shard (right_later _ _ _ _ c.is_nearly_full.ensures.looks c.requires.right)
    (c.is_nearly_full.ensures.value.0 c.if-is_nearly_full.true) c.tell_of.ensures.raised
