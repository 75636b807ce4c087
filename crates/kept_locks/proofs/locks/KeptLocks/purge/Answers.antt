use Rattle.kept_locks.proofs.Counted.{tied_short}
use Rattle.kept_locks.proofs.Latest.{still_chained}
use Rattle.kept_locks.proofs.locks.KeptLocks.purge.Goals as goal

pub returns-clause-chains : goal.returns-clause-chains
returns-clause-chains c = still_chained c.purge_all.new.chains c.purge_all.new.places.items

pub returns-clause-short : goal.returns-clause-short
returns-clause-short c = tied_short c.purge_all.new.places.items c.self.inside.queue c.purge_all.new.chains c.purge_all.new.index c.purge_all.ensures.tied
