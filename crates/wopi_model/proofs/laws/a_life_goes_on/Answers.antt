use Rattle.wopi_model.proofs.Living.{goes_on}
use Rattle.wopi_model.proofs.laws.a_life_goes_on.Goals as goal

pub returns : goal.returns
returns c = goes_on
