use Rattle.wopi_model.proofs.Keeping.{shows-tick, shows-entry}
use Rattle.wopi_model.proofs.laws.settled_late.Goals as goal

pub returns : goal.returns
returns c = record { tick = shows-tick; entry = shows-entry }
