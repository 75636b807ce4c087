use Rattle.std.proofs.Common.{◌≡◌, inl, List, [], length, subst, sym, ap, ◌∙◌, arith}
use Rattle.std.specs.List.{IsAmong}
use Rattle.wopi_model.specs.declared.locks.Spent.{Spent}
use Rattle.wopi_model.specs.Settle.{still_spent}
use Rattle.expiry_queue.specs.Chains.{spent_of}
use Rattle.kept_locks.proofs.Parting.{fewer_still}
use Rattle.kept_locks.proofs.Entries.{among_onto, one_of}
use Rattle.kept_locks.proofs.purge.purge.Goals as goal

pub returns-clause-spare : goal.returns-clause-spare
returns-clause-spare c =
    let ids = spent_of c.args.chains.now c.args.chain in
    let is : length (spent_of c.turn_over.new.chains c.turn_over.result.0) ≡ length (still_spent ids c.args.now) = ap length (c.turn_over.ensures.ids ∙ c.sift-kept.ensures.ids) in
    let fewer = fewer_still ids c.args.now in
    let one = c.sift-kept.ensures.counts.used in
    let two = c.turn_over.ensures.counts.used in
    let here = c.sift-kept.ensures.counts.room in
    let there = c.turn_over.ensures.counts.room in
    omega (arith, is, fewer, one, two, here, there)

pub returns-clause-only : goal.returns-clause-only
returns-clause-only c = λ id until has.
    let kept = spent_of c.sift-kept.new.chains c.sift-kept.result in
    subst (λ (l : List Spent). IsAmong l (one_of id until)) (sym c.turn_over.ensures.ids) (among_onto (one_of id until) kept [] (inl (c.sift-kept.ensures.only id until has)))
