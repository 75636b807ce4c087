use Rattle.journal_audit.proofs.Standing.{found_stood}
use Rattle.journal_audit.proofs.laws.contents_that_are_found_stood.Goals as goal

pub returns : goal.returns
returns c text name version contents bounds legal had = found_stood text name version contents bounds legal had
