use Rattle.journal_audit.specs.Lines.{opened_host}
use Rattle.journal_audit.proofs.Hosts.{bad_at, one_bad_line}
use Rattle.journal_audit.proofs.laws.a_bad_line_is_the_first.Goals as goal

pub returns-clause-illegal : goal.returns-clause-illegal
returns-clause-illegal c text number fault bad legal = bad_at (opened_host text.files text.opened text.first) text.lines bad.0 fault bad.2 legal

pub returns-clause-one : goal.returns-clause-one
returns-clause-one c = one_bad_line
