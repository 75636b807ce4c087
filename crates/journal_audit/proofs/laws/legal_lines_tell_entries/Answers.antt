use Rattle.journal_audit.proofs.Merges.{told_by_lines, told_lines}
use Rattle.journal_audit.proofs.laws.legal_lines_tell_entries.Goals as goal

pub returns-clause-lines : goal.returns-clause-lines
returns-clause-lines c = told_by_lines

pub returns-clause-entries : goal.returns-clause-entries
returns-clause-entries c = told_lines
