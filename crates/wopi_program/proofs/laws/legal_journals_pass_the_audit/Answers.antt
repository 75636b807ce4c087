use Rattle.wopi_program.proofs.LegalLemmas.{audited}
use Rattle.wopi_program.proofs.laws.legal_journals_pass_the_audit.Goals as goal

pub returns : goal.returns
returns g c m bytes text status old new is given ends =
    audited m c.a_journal_has_one_reading.ensures c.a_bad_line_is_the_first.ensures.illegal bytes text is status old new given ends
