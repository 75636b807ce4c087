use Rattle.journal_segments.proofs.Living.{life_is_good}
use Rattle.journal_segments.proofs.laws.a_restored_life_is_good.Goals as goal

pub returns : goal.returns
returns c = life_is_good
