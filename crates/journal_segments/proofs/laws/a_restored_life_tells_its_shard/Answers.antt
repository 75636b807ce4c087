use Rattle.journal_segments.proofs.Living.{life_tells}
use Rattle.journal_segments.proofs.laws.a_restored_life_tells_its_shard.Goals as goal

pub returns : goal.returns
returns c = life_tells
