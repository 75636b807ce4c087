use Rattle.host_core.specs.Whole.{standing_at}
use Rattle.host_core.proofs.Joining.{stands_at}
use Rattle.host_core.proofs.held.is_refused.Goals as goal

pub returns : goal.returns
returns c = c.refuses.ensures (standing_at c.args.locks.now.files c.args.number) (stands_at c.args.locks.now.files c.args.number c.requires)
