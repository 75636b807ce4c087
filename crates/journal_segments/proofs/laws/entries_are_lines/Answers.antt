use Rattle.journal_segments.proofs.Logged.{entry_is_form, entry_is_line, off_is_line}
use Rattle.journal_segments.proofs.laws.entries_are_lines.Goals as goal

pub returns-clause-entry : goal.returns-clause-entry
returns-clause-entry c = entry_is_line

pub returns-clause-form : goal.returns-clause-form
returns-clause-form c = entry_is_form

pub returns-clause-off : goal.returns-clause-off
returns-clause-off c = off_is_line
