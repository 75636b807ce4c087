use Rattle.journal_audit.proofs.Hosts.{journal_is_legal}
use Rattle.journal_audit.proofs.laws.journals_are_legal.Goals as goal

pub returns : goal.returns
returns g c = journal_is_legal g.F.Folder.files g.F.Folder.faults
