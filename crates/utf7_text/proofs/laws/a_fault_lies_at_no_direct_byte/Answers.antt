use Rattle.utf7_text.proofs.Cutting.{bad_inside, bad_not_direct}
use Rattle.utf7_text.proofs.laws.a_fault_lies_at_no_direct_byte.Goals as goal

pub returns-clause-inside : goal.returns-clause-inside
returns-clause-inside c = bad_inside

pub returns-clause-not_direct : goal.returns-clause-not_direct
returns-clause-not_direct c = bad_not_direct
