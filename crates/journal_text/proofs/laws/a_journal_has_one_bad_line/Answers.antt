use Rattle.journal_text.proofs.Outcomes.{one_bad}
use Rattle.journal_text.proofs.laws.a_journal_has_one_bad_line.Goals as goal

pub returns : goal.returns
returns c = one_bad
