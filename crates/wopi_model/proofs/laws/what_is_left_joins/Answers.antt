use Rattle.wopi_model.proofs.Living.{joins}
use Rattle.wopi_model.proofs.laws.what_is_left_joins.Goals as goal

pub returns : goal.returns
returns c = joins
