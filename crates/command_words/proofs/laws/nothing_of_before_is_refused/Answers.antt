use Rattle.command_words.proofs.LawLemmas.{nothing_refused}
use Rattle.command_words.proofs.laws.nothing_of_before_is_refused.Goals as goal

pub returns : goal.returns
returns c = nothing_refused
