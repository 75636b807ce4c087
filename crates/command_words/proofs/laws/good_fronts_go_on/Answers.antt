use Rattle.command_words.proofs.GoingOn.{good_fronts_go_on}
use Rattle.command_words.proofs.laws.good_fronts_go_on.Goals as goal

pub returns : goal.returns
returns c = good_fronts_go_on
