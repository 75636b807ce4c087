use Rattle.std.proofs.Common.{◌≡◌, Option, sym, ap, subst, arith}
use Rattle.wopi_model.specs.Settle.{still_spent, with_spent}
use Rattle.wopi_model.specs.declared.locks.Spent.{Spent}
use Rattle.kept_locks.specs.Refusals.{Goes, Reindexes, shown_of}
use Rattle.kept_locks.specs.Ties.{one_if}
use Rattle.kept_locks.proofs.Falling.{falls_both}
use Rattle.kept_locks.proofs.Trails.{goes_on}
use Rattle.kept_locks.proofs.Entries.{reindexes_both}
use Rattle.kept_locks.proofs.trail.spend_now.Goals as goal

pub returns-in-Some-clause-goes : goal.returns-in-Some-clause-goes
returns-in-Some-clause-goes c =
    let chains = c.args.chains.now in
    let shown = still_spent (shown_of chains c.args.trail) c.args.now in
    subst (λ (spend : Option Spent). Goes chains c.spend_on.new.chains c.args.trail c.spend_on.result (with_spent spend shown)) (sym c.in-Some.is)
    (goes_on chains c.step_to-stepped.new.chains c.spend_on.new.chains c.args.trail c.step_to-stepped.result c.spend_on.result shown c.in-Some.one c.step_to-stepped.ensures.goes c.spend_on.ensures.goes)

pub returns-in-Some-clause-counted : goal.returns-in-Some-clause-counted
returns-in-Some-clause-counted c = λ before. c.spend_on.ensures.counted 0 (omega arith) (c.step_to-stepped.ensures.counted before)

pub returns-in-Some-clause-falls : goal.returns-in-Some-clause-falls
returns-in-Some-clause-falls c =
    falls_both c.args.chains.now c.step_to-stepped.new.chains c.spend_on.new.chains c.args.trail c.step_to-stepped.result c.spend_on.result c.step_to-stepped.ensures.falls c.spend_on.ensures.falls c.spend_on.ensures.left

pub returns-in-None-clause-index : goal.returns-in-None-clause-index
returns-in-None-clause-index c =
    subst (λ (spend : Option Spent). Reindexes c.args.index.now c.step_to-stepped.new.index c.args.file c.args.trail c.step_to-stepped.result (one_if spend)) (sym c.in-None.is) c.step_to-stepped.ensures.index

pub returns-in-Some-clause-index : goal.returns-in-Some-clause-index
returns-in-Some-clause-index c =
    subst (λ (spend : Option Spent). Reindexes c.args.index.now c.spend_on.new.index c.args.file c.args.trail c.spend_on.result (one_if spend)) (sym c.in-Some.is)
    (reindexes_both c.args.index.now c.step_to-stepped.new.index c.spend_on.new.index c.args.file c.args.trail c.step_to-stepped.result c.spend_on.result 0 1 1 c.step_to-stepped.ensures.index c.spend_on.ensures.index (omega arith))

pub returns-in-None-clause-spare : goal.returns-in-None-clause-spare
returns-in-None-clause-spare c =
    let same : one_if c.args.spend ≡ 0 = ap one_if c.in-None.is in
    omega (arith, c.step_to-stepped.ensures.spare, same)

pub returns-in-Some-clause-spare : goal.returns-in-Some-clause-spare
returns-in-Some-clause-spare c =
    let same : one_if c.args.spend ≡ 1 = ap one_if c.in-Some.is in
    omega (arith, c.step_to-stepped.ensures.spare, c.spend_on.ensures.spare, same)
