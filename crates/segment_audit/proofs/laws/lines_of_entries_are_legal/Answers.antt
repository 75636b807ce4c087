use Rattle.segment_audit.proofs.Made.{lines_legal}
use Rattle.segment_audit.proofs.laws.lines_of_entries_are_legal.Goals as goal

pub returns : goal.returns
returns c = lines_legal
