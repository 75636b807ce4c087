use Rattle.host_table.proofs.WritingLemmas.{none_written}
use Rattle.journal_text.proofs.writing.write_lines.Goals as goal

pub returns-in_default-clause-bytes : goal.returns-in_default-clause-bytes
returns-in_default-clause-bytes g c = none_written _ _
