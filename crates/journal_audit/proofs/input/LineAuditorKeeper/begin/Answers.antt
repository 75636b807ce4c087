use Rattle.journal_audit.proofs.Streaming.{begun_keeps}
use Rattle.journal_audit.proofs.input.LineAuditorKeeper.begin.Goals as goal

pub returns : goal.returns
returns c = begun_keeps c.in_ok-auditor.auditor c.args.opened c.args.first c.in_ok-auditor.ensures
