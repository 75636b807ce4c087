use Rattle.wopi_model.proofs.Ended.{refuses_ended}
use Rattle.wopi_model.proofs.laws.ended_ids_stay_refused.Goals as goal

pub returns : goal.returns
returns c = refuses_ended
