use Rattle.segment_audit.proofs.Verdicts.{bad_not_legal, one_bad_line}
use Rattle.segment_audit.proofs.laws.a_bad_line_is_the_first.Goals as goal

pub returns-clause-illegal : goal.returns-clause-illegal
returns-clause-illegal c = bad_not_legal

pub returns-clause-one : goal.returns-clause-one
returns-clause-one c = one_bad_line
