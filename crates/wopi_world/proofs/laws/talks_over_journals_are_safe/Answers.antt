use Rattle.wopi_world.proofs.Talking.{shard_lem, journal_lem}
use Rattle.wopi_world.proofs.laws.talks_over_journals_are_safe.Goals as goal

pub returns-clause-shard : goal.returns-clause-shard
returns-clause-shard c = shard_lem

pub returns-clause-host : goal.returns-clause-host
returns-clause-host c = journal_lem
