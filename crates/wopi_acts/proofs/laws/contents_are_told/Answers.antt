use Rattle.wopi_acts.proofs.Telling.{told_body}
use Rattle.wopi_acts.proofs.laws.contents_are_told.Goals as goal

pub returns : goal.returns
returns c = told_body
