use Rattle.wopi_acts.proofs.Acting.{only_a_copy}
use Rattle.wopi_acts.proofs.laws.only_a_copy_is_more_than_one_act.Goals as goal

pub returns : goal.returns
returns c = only_a_copy
