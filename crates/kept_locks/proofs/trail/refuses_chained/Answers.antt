use Rattle.std.proofs.Common.{◌≡◌, ◌<◌, ◌≤◌, Bool, true, false, not, List, refl, ap, ◌∙◌, arith}
use Rattle.wopi_model.specs.Act.{is_spent}
use Rattle.wopi_model.specs.declared.locks.Spent.{Spent}
use Rattle.expiry_queue.specs.Chains.{spent_of}
use Rattle.kept_locks.proofs.Trails.{shown_later, shown_early}
use Rattle.kept_locks.proofs.trail.refuses_chained.Goals as goal

told_of : (b : Bool) → not b ≡ false → b ≡ true
told_of true e = refl
told_of false e = absurd (cc (e))

pub returns-then-trail-now : goal.returns-then-trail-now
returns-then-trail-now c =
    let trail = c.args.trail in
    let le : trail.as_of ≤ c.args.now = c.if-trail-now.true in
    c.is_refused.ensures ∙ c.requires.tells (told_of c.args.trail.told c.if-not-trail.false) c.args.id.now c.args.now le
    ∙ ap (λ (l : List Spent). is_spent l c.args.id.now) (shown_later trail.purged (spent_of c.args.chains.now trail.chain) trail.as_of c.args.now le)

pub returns : goal.returns
returns c =
    let trail = c.args.trail in
    let lt : c.args.now < trail.as_of = c.if-trail-now.false in
    let le : c.args.now ≤ trail.as_of = omega (arith, lt) in
    let same : trail.as_of ≤ trail.as_of = omega arith in
    c.is_refused-2.ensures ∙ c.requires.tells (told_of c.args.trail.told c.if-not-trail.false) c.args.id.now trail.as_of same
    ∙ ap (λ (l : List Spent). is_spent l c.args.id.now) (shown_early (spent_of c.args.chains.now trail.chain) trail.as_of c.args.now trail.purged c.if-trail.false le)
