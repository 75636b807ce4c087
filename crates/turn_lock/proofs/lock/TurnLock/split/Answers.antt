use Rattle.std.proofs.Common.{rules, arith, ap, ◌∙◌, subst, sym, ◌<◌, ◌/◌}
use Rattle.turn_lock.proofs.Sharing.{splits, lends}
use Rattle.turn_lock.proofs.Seating.{free_stage}
use Rattle.turn_lock.proofs.lock.TurnLock.split.Goals as goal

pub split_seat-place-requires : goal.split_seat-place-requires
split_seat-place-requires g c = let words = c.self.invariant.0 in let free = free_stage _ _ _ c.seat.invariant.rests (ap (λ z. z.taken) c.seat.view_is ∙ c.requires.free) in
    (search rules, omega arith, splits g.V.Grown.entries g.V.Grown.base _ _ free.0 c.seat.invariant.heavy)

pub fetch_add-requires : goal.fetch_add-requires
fetch_add-requires g c = let words = c.self.invariant.0 in let free = free_stage _ _ _ c.seat.invariant.rests (ap (λ z. z.taken) c.seat.view_is ∙ c.requires.free) in
    let e = c.split_seat-place.ensures.2 in let is = c.seat.invariant.weight_is in let heavy = c.seat.invariant.heavy in
    let less : c.seat.inside.weight / 2 < c.seat.inside.place.me.0.weight = omega arith in
    (search rules, omega arith, lends g.V.Grown.entries g.V.Grown.base _ _ _ _ (ap (λ m. m.0.stage) e ∙ free.0) (subst (λ m. c.seat.inside.weight / 2 < m.0.weight) (sym e) less))
