use Rattle.segment_audit.proofs.Made.{legal_made}
use Rattle.segment_audit.proofs.laws.legal_segments_are_made.Goals as goal

pub returns : goal.returns
returns c = legal_made
