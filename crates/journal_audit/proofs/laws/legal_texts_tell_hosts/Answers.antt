use Rattle.journal_audit.proofs.Hosts.{tells_host}
use Rattle.journal_audit.proofs.laws.legal_texts_tell_hosts.Goals as goal

pub returns : goal.returns
returns c = tells_host
