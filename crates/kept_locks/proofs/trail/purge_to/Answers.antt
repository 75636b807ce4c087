use Rattle.std.proofs.Common.{arith}
use Rattle.kept_locks.proofs.Entries.{reindexes_both}
use Rattle.kept_locks.proofs.trail.purge_to.Goals as goal

pub returns-clause-index : goal.returns-clause-index
returns-clause-index c =
    reindexes_both c.args.index.now c.step_to-stepped.new.index c.purge_hidden.new.index c.args.file c.args.trail c.step_to-stepped.result c.purge_hidden.result 0 0 0 c.step_to-stepped.ensures.index c.purge_hidden.ensures.index (omega arith)
