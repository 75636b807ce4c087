use Rattle.kept_locks.proofs.Ending.{purged_shows}
use Rattle.kept_locks.proofs.laws.purged_early.Goals as goal

pub returns-clause-shows : goal.returns-clause-shows
returns-clause-shows c = purged_shows
