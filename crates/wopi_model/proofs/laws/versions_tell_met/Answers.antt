use Rattle.wopi_model.proofs.Meeting.{met_lem}
use Rattle.wopi_model.proofs.laws.versions_tell_met.Goals as goal

pub returns : goal.returns
returns c opening opened first history name legal = met_lem opening opened first history name
