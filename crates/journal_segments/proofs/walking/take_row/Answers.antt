use Rattle.journal_segments.proofs.Seeing.{sees_one}
use Rattle.journal_segments.proofs.walking.take_row.Goals as goal

pub returns-in-Ok-clause-seen : goal.returns-in-Ok-clause-seen
returns-in-Ok-clause-seen g c =
    sees_one g.W.Watcher.has_seen c.args.watcher.now c.see.new.self c.args.state c.in-Ok.next c.args.row c.args.number c.takes_back-back.result c.requires.form c.requires.comes
    c.in-Ok.ensures.state c.takes_back-back.ensures c.see.ensures
