use Rattle.journal_audit.proofs.Hosts.{go_on}
use Rattle.journal_audit.proofs.laws.legal_lines_go_on.Goals as goal

pub returns : goal.returns
returns c = go_on
