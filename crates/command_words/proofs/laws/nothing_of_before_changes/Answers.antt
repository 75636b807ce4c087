use Rattle.command_words.proofs.LawLemmas.{nothing_changes}
use Rattle.command_words.proofs.laws.nothing_of_before_changes.Goals as goal

pub returns : goal.returns
returns c = nothing_changes
