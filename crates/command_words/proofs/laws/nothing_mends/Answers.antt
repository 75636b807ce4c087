use Rattle.command_words.proofs.LineLemmas.{nothing_mends}
use Rattle.command_words.proofs.laws.nothing_mends.Goals as goal

pub returns : goal.returns
returns c = nothing_mends
