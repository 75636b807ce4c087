use Rattle.journal_segments.proofs.Written.{counts}
use Rattle.journal_segments.proofs.laws.lines_that_count_are_told.Goals as goal

pub returns : goal.returns
returns c = counts
