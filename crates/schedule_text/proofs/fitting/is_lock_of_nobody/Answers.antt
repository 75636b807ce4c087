use Rattle.schedule_text.proofs.FittingLines.{some_lock}
use Rattle.schedule_text.proofs.fitting.is_lock_of_nobody.Goals as goal

pub returns-in-Some : goal.returns-in-Some
returns-in-Some c = some_lock c.args.sessions.now c.args.lock.now c.in-Some.id c.is_of_session.result c.in-Some.is c.is_of_session.ensures
