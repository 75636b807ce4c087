use Rattle.journal_segments.proofs.Apart.{bad_is_none, headless_is_none, unended_is_none}
use Rattle.journal_segments.proofs.laws.refused_is_none.Goals as goal

pub returns-clause-bad : goal.returns-clause-bad
returns-clause-bad c = bad_is_none

pub returns-clause-head : goal.returns-clause-head
returns-clause-head c = headless_is_none

pub returns-clause-unended : goal.returns-clause-unended
returns-clause-unended c = unended_is_none
