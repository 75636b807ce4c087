use Rattle.save_session.proofs.Naming.{same_number}
use Rattle.save_session.proofs.laws.ids_differ.Goals as goal

pub returns : goal.returns
returns c = same_number
