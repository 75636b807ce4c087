use Rattle.utf7_text.proofs.Runs.{reads_back, written_once}
use Rattle.utf7_text.proofs.laws.what_is_written_reads_back.Goals as goal

pub returns-clause-back : goal.returns-clause-back
returns-clause-back c = reads_back

pub returns-clause-alone : goal.returns-clause-alone
returns-clause-alone c = written_once
