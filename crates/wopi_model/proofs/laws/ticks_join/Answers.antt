use Rattle.wopi_model.proofs.Histories.{at_moment-at_moment}
use Rattle.wopi_model.proofs.laws.ticks_join.Goals as goal

pub returns : goal.returns
returns c = at_moment-at_moment
