use Rattle.journal_audit.proofs.Hosts.{safe_host}
use Rattle.journal_audit.proofs.laws.legal_texts_are_safe.Goals as goal

pub returns : goal.returns
returns c = safe_host
