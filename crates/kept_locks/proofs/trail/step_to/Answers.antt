use Rattle.std.proofs.Common.{◌<◌, ◌≤◌, ℕ, inl, inr, true, false, sym, subst, refl, arith}
use Rattle.wopi_model.specs.Settle.{still_spent}
use Rattle.kept_locks.specs.declared.trail.Trail.{Trail}
use Rattle.kept_locks.specs.Refusals.{Goes, refused_by, shown_of}
use Rattle.kept_locks.proofs.Counted.{counted_purged, counted_lazy, leaves_purged}
use Rattle.kept_locks.proofs.Trails.{tells_left, tells_lazy, step_lazy}
use Rattle.kept_locks.proofs.trail.step_to.Goals.{else-trail-via-then-trail+else-now-trail, else-trail-via-else-trail}
use Rattle.kept_locks.proofs.Entries.{reindexes_same, reindexes_shed}
use Rattle.kept_locks.proofs.trail.step_to.Goals as goal

pub returns-then-now-trail-clause-tells : goal.returns-then-now-trail-clause-tells
returns-then-now-trail-clause-tells c =
    let lt : c.args.now < c.args.trail.as_of = c.if-now-trail.true in
    let le : c.args.now ≤ c.args.trail.as_of = omega (arith, lt) in
    let result : Trail = record { chain = c.purge-chain.result.0; as_of = c.args.trail.as_of; purged = true; told = c.is_told.result; count = c.purge-chain.result.1; left = c.purge-chain.result.1 } in
    tells_left c.args.index.now c.purge-chain.new.index c.args.file c.args.chains.now c.purge-chain.new.chains c.args.trail result c.args.now le c.is_told.ensures.either c.is_told.ensures.kept refl c.purge-chain.ensures.sheds c.purge-chain.ensures.chain.spent_is
    c.purge-chain.ensures.count c.purge-chain.ensures.only c.requires.tells

pub returns-clause-goes : goal.returns-clause-goes
returns-clause-goes c =
    let trail = c.args.trail in
    let chains = c.args.chains.now in
    subst (λ (m : ℕ). Goes chains chains trail (record { chain = trail.chain; as_of = m; purged = false; told = trail.told; count = trail.count; left = trail.left }) (still_spent (shown_of chains trail) c.args.now)) (sym c.max.ensures)
    (step_lazy chains trail c.args.now trail.told trail.count trail.left c.requires.live
    (elim c.else-trail.branch [
      | else-trail-via-then-trail+else-now-trail w ↦ inr (w.if-now-trail.false)
      | else-trail-via-else-trail w ↦ inl w.if-trail.false
    ]))

pub returns-clause-tells : goal.returns-clause-tells
returns-clause-tells c =
    let trail = c.args.trail in
    let result : Trail = record { chain = trail.chain; as_of = c.max.result; purged = false; told = trail.told; count = trail.count; left = trail.left } in
    let late : trail.as_of ≤ c.max.result = omega (arith, c.max.ensures) in
    tells_lazy (refused_by c.args.index.now c.args.file) c.args.chains.now trail result refl refl late c.requires.tells

pub returns-then-now-trail-clause-counted : goal.returns-then-now-trail-clause-counted
returns-then-now-trail-clause-counted c = λ before.
    let result : Trail = record { chain = c.purge-chain.result.0; as_of = c.args.trail.as_of; purged = true; told = c.is_told.result; count = c.purge-chain.result.1; left = c.purge-chain.result.1 } in
    counted_purged c.purge-chain.new.chains result c.purge-chain.ensures.count refl c.is_told.ensures.empty

pub returns-then-now-trail-clause-left : goal.returns-then-now-trail-clause-left
returns-then-now-trail-clause-left c =
    let result : Trail = record { chain = c.purge-chain.result.0; as_of = c.args.trail.as_of; purged = true; told = c.is_told.result; count = c.purge-chain.result.1; left = c.purge-chain.result.1 } in
    leaves_purged c.purge-chain.new.chains c.args.trail result refl c.purge-chain.ensures.count

pub returns-clause-counted : goal.returns-clause-counted
returns-clause-counted c = λ before.
    let trail = c.args.trail in
    let result : Trail = record { chain = trail.chain; as_of = c.max.result; purged = false; told = trail.told; count = trail.count; left = trail.left } in
    counted_lazy c.args.chains.now trail result 2 refl refl refl refl refl before

pub returns-then-now-trail-clause-falls : goal.returns-then-now-trail-clause-falls
returns-then-now-trail-clause-falls c = λ lt. let count = c.purge-chain.ensures.count in omega (arith, count)

pub returns-clause-falls : goal.returns-clause-falls
returns-clause-falls c = λ lt. absurd (omega (arith, lt))

pub returns-then-now-trail-clause-index : goal.returns-then-now-trail-clause-index
returns-then-now-trail-clause-index c =
    let result : Trail = record { chain = c.purge-chain.result.0; as_of = c.args.trail.as_of; purged = true; told = c.is_told.result; count = c.purge-chain.result.1; left = c.purge-chain.result.1 } in
    reindexes_shed c.args.index.now c.purge-chain.new.index c.args.file c.args.now c.args.trail result c.purge-chain.ensures.sheds c.is_told.ensures.kept

pub returns-clause-index : goal.returns-clause-index
returns-clause-index c =
    let trail = c.args.trail in
    let result : Trail = record { chain = trail.chain; as_of = c.max.result; purged = false; told = trail.told; count = trail.count; left = trail.left } in
    reindexes_same c.args.index.now c.args.file trail result refl
