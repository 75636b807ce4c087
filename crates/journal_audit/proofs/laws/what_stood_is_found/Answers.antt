use Rattle.journal_audit.proofs.Finding.{stood_found}
use Rattle.journal_audit.proofs.laws.what_stood_is_found.Goals as goal

pub returns : goal.returns
returns c text name version contents bounds legal stood = stood_found text name version contents bounds legal stood
