use Rattle.wopi_model.proofs.Living.{leaves}
use Rattle.wopi_model.proofs.laws.each_history_leaves_a_begin.Goals as goal

pub returns : goal.returns
returns c = leaves
