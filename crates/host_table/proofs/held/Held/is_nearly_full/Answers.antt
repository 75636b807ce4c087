use Rattle.host_table.proofs.Holding.{seen_of}
use Rattle.host_table.proofs.held.Held.is_nearly_full.Goals as goal

pub returns-clause-seen : goal.returns-clause-seen
returns-clause-seen g c = rw (← c.self.view_is) (seen_of c.self.inside.shard _ _ _ _ _ _ c.self.invariant c.is_nearly_full.ensures.lawful.alone)
