use Rattle.host_core.specs.Whole.{standing_at}
use Rattle.host_core.proofs.Joining.{stands_at}
use Rattle.host_core.proofs.held.lock_of.Goals as goal

pub returns : goal.returns
returns c = c.lock.ensures (standing_at c.args.locks.now.files c.args.number) (stands_at c.args.locks.now.files c.args.number c.requires)
