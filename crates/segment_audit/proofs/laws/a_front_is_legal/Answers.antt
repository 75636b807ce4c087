use Rattle.segment_audit.proofs.Verdicts.{front_is_legal}
use Rattle.segment_audit.proofs.laws.a_front_is_legal.Goals as goal

pub returns : goal.returns
returns c = front_is_legal
