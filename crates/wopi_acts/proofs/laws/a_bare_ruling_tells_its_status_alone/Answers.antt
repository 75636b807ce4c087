use Rattle.wopi_acts.proofs.Telling.{bare_told}
use Rattle.wopi_acts.proofs.laws.a_bare_ruling_tells_its_status_alone.Goals as goal

pub returns : goal.returns
returns c = bare_told
