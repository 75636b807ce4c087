use Rattle.wopi_model.proofs.Settling.{settled-settled}
use Rattle.wopi_model.proofs.laws.settled_twice.Goals as goal

pub returns : goal.returns
returns c = settled-settled
