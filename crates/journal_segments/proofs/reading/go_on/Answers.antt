use Rattle.journal_segments.proofs.Coming.{reach_on}
use Rattle.journal_segments.proofs.Going.{refused}
use Rattle.journal_segments.proofs.reading.go_on.Goals as goal

pub walk-requires-clause-timed : goal.walk-requires-clause-timed
walk-requires-clause-timed g c = let seen = c.requires.at.1 in seen.taken.timed

pub returns-in-Err-clause-stops : goal.returns-in-Err-clause-stops
returns-in-Err-clause-stops g c = λ text seen. refused text c.args.held.now c.args.number c.args.state c.in-Err.fault seen.taken c.in-Err.ensures.stops

pub returns-clause-on : goal.returns-clause-on
returns-clause-on g c = λ text seen.
    let walked = c.in-Ok.walked in
    let goes = c.in-Ok.ensures in
    reach_on g.W.Watcher.has_seen c.args.watcher.now c.walk.new.watcher text c.args.held.now walked.left.now c.in-Ok-rest_of.held.items c.args.state walked.state c.args.number walked.number walked.wanted goes.on goes.waits goes.timed
    c.in-Ok-rest_of.ensures seen
