use Rattle.journal_audit.proofs.Givings.{one_contents}
use Rattle.journal_audit.proofs.laws.a_version_has_one_contents.Goals as goal

pub returns : goal.returns
returns c text name version contents others had has = one_contents name version text contents others had has
