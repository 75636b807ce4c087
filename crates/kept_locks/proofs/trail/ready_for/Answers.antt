use Rattle.std.proofs.Common.{refl, arith}
use Rattle.kept_locks.proofs.Entries.{reindexes_same}
use Rattle.kept_locks.proofs.trail.ready_for.Goals as goal

pub returns-then-trail-clause-falls : goal.returns-then-trail-clause-falls
returns-then-trail-clause-falls c = λ lt. absurd (omega (arith, lt))

pub returns-then-not-is_long-clause-falls : goal.returns-then-not-is_long-clause-falls
returns-then-not-is_long-clause-falls c = λ lt. absurd (omega (arith, lt))

pub returns-clause-falls : goal.returns-clause-falls
returns-clause-falls c = λ lt. c.purge_hidden.ensures.few

pub returns-then-trail-clause-index : goal.returns-then-trail-clause-index
returns-then-trail-clause-index c = reindexes_same c.args.index.now c.args.file c.args.trail c.args.trail refl

pub returns-then-not-is_long-clause-index : goal.returns-then-not-is_long-clause-index
returns-then-not-is_long-clause-index c = reindexes_same c.args.index.now c.args.file c.args.trail c.args.trail refl
