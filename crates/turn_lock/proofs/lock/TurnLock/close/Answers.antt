use Rattle.std.proofs.Common.{ap, ◌∙◌, subst, Some, ◌≡◌, length}
use mathlib.Core.List.{IsPrefix}
use Rattle.turn_lock.specs.Places.{AreAllBelow}
use Rattle.turn_lock.specs.Seats.{SeatValue}
use Rattle.turn_lock.proofs.Ending.{ends}
use Rattle.turn_lock.proofs.Seating.{free_stage}
use Rattle.turn_lock.proofs.lock.TurnLock.close.Goals as goal

pub unreachable-requires : goal.unreachable-requires
unreachable-requires g c =
    let free = free_stage _ _ _ c.seat.invariant.rests (ap (λ z. z.taken) c.seat.view_is ∙ c.requires.free) in
    let last = ends g.V.Grown.entries g.V.Grown.base c.seat.inside.place _ _ c.take.result free.0 (ap (λ z. z.weight) c.seat.view_is ∙ c.requires.whole) c.seat.invariant.live c.close_with-closed.ensures.values.2 c.take.ensures.value in
    cc (last.1, c.in_default.is)

pub returns : goal.returns
returns g c =
    let free = free_stage _ _ _ c.seat.invariant.rests (ap (λ z. z.taken) c.seat.view_is ∙ c.requires.free) in
    let last = ends g.V.Grown.entries g.V.Grown.base c.seat.inside.place _ _ c.take.result free.0 (ap (λ z. z.weight) c.seat.view_is ∙ c.requires.whole) c.seat.invariant.live c.close_with-closed.ensures.values.2 c.take.ensures.value in
    let value : last.0 ≡ c.in-Some.value = cc (last.1, c.in-Some.is) in
    let seat = c.seat.view_is in
    record {
      prefix = subst (λ (z : SeatValue g.row.V-Entry.Denot g.row.V-Base.Denot × g.row.V.Denot). IsPrefix z.0.seen (g.V.Grown.entries z.1)) (λ k. (seat k, value k)) last.2.begins;
      base = subst (λ (z : SeatValue g.row.V-Entry.Denot g.row.V-Base.Denot × g.row.V.Denot). z.0.base ≡ Some (g.V.Grown.base z.1)) (λ k. (seat k, value k)) last.2.based;
      own = subst (λ (z : SeatValue g.row.V-Entry.Denot g.row.V-Base.Denot × g.row.V.Denot). AreAllBelow (length (g.V.Grown.entries z.1)) z.0.own) (λ k. (seat k, value k)) last.2.owned;
    }
