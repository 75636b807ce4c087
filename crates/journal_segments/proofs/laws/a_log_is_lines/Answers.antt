use Rattle.journal_segments.proofs.Logged.{log_counts, log_has_entries, log_is_lines}
use Rattle.journal_segments.proofs.laws.a_log_is_lines.Goals as goal

pub returns-clause-text : goal.returns-clause-text
returns-clause-text c = log_is_lines

pub returns-clause-entries : goal.returns-clause-entries
returns-clause-entries c = log_has_entries

pub returns-clause-counted : goal.returns-clause-counted
returns-clause-counted c = log_counts
