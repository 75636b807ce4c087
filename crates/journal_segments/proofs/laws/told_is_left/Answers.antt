use Rattle.journal_segments.proofs.Telling.{left}
use Rattle.journal_segments.proofs.laws.told_is_left.Goals as goal

pub returns : goal.returns
returns c = left
