use Rattle.std.proofs.Common.{rules, ◌≡◌, ◌+◌, ◌-◌, ◌^◌, ◌<◌, ℕ, suc, subst, List, length, min, refl, ap, arith}
use Rattle.wopi_model.specs.declared.locks.Spent.{Spent}
use Rattle.expiry_queue.specs.Chains.{spent_of}
use Rattle.kept_locks.specs.declared.trail.Trail.{Trail}
use Rattle.kept_locks.specs.Refusals.{Notes}
use Rattle.kept_locks.proofs.Counted.{counted_front}
use Rattle.kept_locks.proofs.Entries.{only_front, reindexes_both, reindexes_noted}
use Rattle.kept_locks.proofs.trail.spend_on.Goals as goal

pub returns-clause-counted : goal.returns-clause-counted
returns-clause-counted c = λ more le before.
    let ready = c.ready_for-ready.result in
    let result : Trail = record { chain = c.add-chain.result; as_of = ready.as_of; purged = ready.purged; told = c.if-ready.result; count = c.saturating_add.result; left = ready.left } in
    let count : c.saturating_add.result ≡ min (ready.count + 1) (2 ^ 64 - 1) = omega (arith, c.saturating_add.ensures) in
    counted_front c.ready_for-ready.new.chains c.add-chain.new.self ready result c.args.one more c.add-chain.ensures.chain.spent_is count refl refl (c.ready_for-ready.ensures.short more le before)
    (c.ready_for-ready.ensures.counted more before)

pub returns-clause-falls : goal.returns-clause-falls
returns-clause-falls c = λ lt.
    let ready = c.ready_for-ready.result in
    let longer : length (spent_of c.add-chain.new.self c.add-chain.result) ≡ suc (length (spent_of c.ready_for-ready.new.chains ready.chain)) = ap (λ (l : List Spent). length l) c.add-chain.ensures.chain.spent_is in
    let shorter : length (spent_of c.ready_for-ready.new.chains ready.chain) < length (spent_of c.args.chains.now c.args.trail.chain) = omega (arith, lt, longer) in
    let left = c.ready_for-ready.ensures.falls shorter in
    omega (arith, left, longer)

pub returns-clause-only : goal.returns-clause-only
returns-clause-only c =
    only_front c.ready_for-ready.new.index c.note-noted.new.index c.args.file c.args.one (spent_of c.ready_for-ready.new.chains c.ready_for-ready.result.chain) (spent_of c.add-chain.new.self c.add-chain.result)
    c.note-noted.result (λ noted. subst (λ (id : List ℕ). Notes c.ready_for-ready.new.index c.note-noted.new.index (record { file = c.args.file; id = id }) c.args.one.until) c.copy.ensures (c.note-noted.ensures.notes noted))
    c.note-noted.ensures.full c.add-chain.ensures.chain.spent_is c.ready_for-ready.ensures.only

pub returns-clause-index : goal.returns-clause-index
returns-clause-index c =
    let ready = c.ready_for-ready.result in
    let result : Trail = record { chain = c.add-chain.result; as_of = ready.as_of; purged = ready.purged; told = c.if-ready.result; count = c.saturating_add.result; left = ready.left } in
    reindexes_both c.args.index.now c.ready_for-ready.new.index c.note-noted.new.index c.args.file c.args.trail ready result 0 1 1 c.ready_for-ready.ensures.index
    (reindexes_noted c.ready_for-ready.new.index c.note-noted.new.index c.args.file c.args.one.id c.args.one.until ready result c.note-noted.result (λ noted. subst (λ (id : List ℕ). Notes c.ready_for-ready.new.index c.note-noted.new.index (record { file = c.args.file; id = id }) c.args.one.until) c.copy.ensures (c.note-noted.ensures.notes noted))
    c.note-noted.ensures.full
    c.note-noted.ensures.room c.note-noted.ensures.spare (search rules)) (omega arith)
