use Rattle.std.proofs.Common.{rules, arith, ap, ◌∙◌}
use Rattle.turn_lock.proofs.Sharing.{joins, settles}
use Rattle.turn_lock.proofs.Seating.{free_stage}
use Rattle.turn_lock.proofs.lock.TurnLock.join.Goals as goal

pub join_seat-requires : goal.join_seat-requires
join_seat-requires g c = let words = c.self.invariant.0 in
    let free = free_stage _ _ _ c.seat.invariant.rests (ap (λ z. z.taken) c.seat.view_is ∙ c.requires.free.0) in
    let other_free = free_stage _ _ _ c.other.invariant.rests (ap (λ z. z.taken) c.other.view_is ∙ c.requires.free.1) in
    (search rules, search rules, other_free.1, omega arith, joins g.V.Grown.entries g.V.Grown.base _ _ _ _ free.0 other_free.0 c.seat.invariant.heavy)

pub load-requires : goal.load-requires
load-requires g c = let words = c.self.invariant.0 in (
  search rules,
  omega arith,
  settles g.V.Grown.entries g.V.Grown.base _ _ _ _ _ (ap (λ m. m.0.stage) c.join_seat.ensures.2),
)
