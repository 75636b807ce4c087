use Rattle.journal_segments.proofs.Written.{restored_is_left}
use Rattle.journal_segments.proofs.laws.what_is_restored_is_left.Goals as goal

pub returns : goal.returns
returns c = restored_is_left
