use Rattle.journal_segments.proofs.Apart.{one_segment}
use Rattle.journal_segments.proofs.laws.one_segment.Goals as goal

pub returns : goal.returns
returns c = one_segment
