use Rattle.journal_segments.proofs.Stopped.{front_is_segment}
use Rattle.journal_segments.proofs.laws.a_front_is_a_segment.Goals as goal

pub returns : goal.returns
returns c = front_is_segment
