use Rattle.put_relative.proofs.Stems.{copies_fit}
use Rattle.put_relative.proofs.laws.a_tidied_name_has_every_candidate.Goals as goal

pub returns : goal.returns
returns c = copies_fit
