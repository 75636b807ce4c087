use Rattle.std.proofs.Common.{◌≡◌, List, Some, refl, sym, ap, subst, ◌∙◌}
use Rattle.wopi_model.specs.declared.locks.Lock.{Lock}
use Rattle.expiry_queue.specs.Waiting.{Waiting, IsInOrder, refreshed}
use Rattle.expiry_queue.specs.Queue.{Queue}
use Rattle.kept_locks.specs.Ties.{Requeues, waits_as, renewed}
use Rattle.kept_locks.proofs.Requeuing.{requeued_same, requeued_refreshed, found_has}
use Rattle.kept_locks.proofs.places.renew_held.Goals.{then-since-held, else-since-held}
use Rattle.kept_locks.proofs.places.renew_held.Goals as goal

pub refresh-requires-clause-live : goal.refresh-requires-clause-live
refresh-requires-clause-live c = found_has c.args.held.now.key c.args.queue.now.waiting (waits_as c.args.number c.args.held.now) c.requires.here

pub returns-clause-queue : goal.returns-clause-queue
returns-clause-queue c =
    let held = c.args.held.now in
    let lock : Lock = renewed c.args.since c.args.until held.lock in
    elim c.if-since-held.branch [
      | then-since-held w ↦
          let is : c.if-since-held.queue.waiting ≡ refreshed held.key c.args.since c.args.queue.now.waiting = ap (λ (q : Queue). q.waiting) w.queue-is ∙ w.refresh.ensures.waiting in
          subst (λ (l : List Waiting). Requeues c.args.queue.now.waiting l c.args.number (Some held) (Some lock) (Some (record { lock = lock; key = held.key }))) (sym is)
          (requeued_refreshed c.args.queue.now.waiting c.args.number held lock c.requires.here c.requires.order.keys (subst IsInOrder w.refresh.ensures.waiting w.refresh.ensures.order))
      | else-since-held w ↦
          subst (λ (l : List Waiting). Requeues c.args.queue.now.waiting l c.args.number (Some held) (Some lock) (Some (record { lock = lock; key = held.key })))
          (sym (ap (λ (q : Queue). q.waiting) w.queue-is))
          (requeued_same c.args.queue.now.waiting c.args.number held lock c.requires.here c.requires.order (sym w.if-since-held.false))
    ]

pub returns-clause-long : goal.returns-clause-long
returns-clause-long c = (returns-clause-queue c).as_long c.args.held.now refl
