use Rattle.wopi_text.proofs.IdLemmas.{id_of-injective}
use Rattle.wopi_text.proofs.laws.an_id_reads_back.Goals as goal

pub returns : goal.returns
returns c = id_of-injective
