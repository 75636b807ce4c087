use Rattle.save_session.proofs.Stepping.{stays_sound, reply_unawaited, loss_unawaited}
use Rattle.save_session.proofs.laws.an_awaited_answer_is_heard.Goals as goal

pub returns-clause-sound : goal.returns-clause-sound
returns-clause-sound c = stays_sound

pub returns-clause-heard : goal.returns-clause-heard
returns-clause-heard c = reply_unawaited

pub returns-clause-lost : goal.returns-clause-lost
returns-clause-lost c = loss_unawaited
