use Rattle.std.proofs.Common.{ℕ, List, inl, ap, length, ◌∙◌}
use Rattle.wopi_model.specs.Settle.{still_spent}
use Rattle.wopi_model.specs.declared.locks.Spent.{Spent}
use Rattle.expiry_queue.specs.Chains.{spent_of}
use Rattle.kept_locks.proofs.Trails.{shown_step}
use Rattle.kept_locks.proofs.trail.count_shown.Goals as goal

pub returns : goal.returns
returns c =
    let trail = c.args.trail in
    c.count_refused-2.ensures ∙ ap (λ (n : ℕ). length (still_spent (spent_of c.args.chains.now trail.chain) n)) c.max.ensures
    ∙ ap (λ (l : List Spent). length l) (shown_step c.args.chains.now trail c.args.now (inl c.if-trail.false))
