use Rattle.journal_segments.proofs.Telling.{begin_tells}
use Rattle.journal_segments.proofs.laws.a_begin_is_told.Goals as goal

pub returns : goal.returns
returns c = begin_tells
