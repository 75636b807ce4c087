use Rattle.wopi_program.proofs.LegalLemmas.{served_legal, written}
use Rattle.wopi_program.proofs.laws.journals_of_a_serve_are_legal.Goals as goal

pub returns-clause-served : goal.returns-clause-served
returns-clause-served g c m keys base origin ask ends journal old new many served =
    served_legal m c.legal_lines_tell_entries.ensures.entries keys base origin ask ends journal old new many served

pub returns-clause-written : goal.returns-clause-written
returns-clause-written g c m words status old new before many plain ends is held =
    written m c.legal_lines_tell_entries.ensures.entries c.a_host_s_journal_is_read.ensures old new before many held words status plain ends is
