use Rattle.wopi_model.proofs.Fullness.{full_of_kept}
use Rattle.wopi_model.proofs.laws.full_of_what_is_kept.Goals as goal

pub returns : goal.returns
returns c = full_of_kept
