use Rattle.std.proofs.Common.{rules, arith, ap, ◌∙◌, sym, refl, ℕ, List, ◌∷◌, ◌++◌, Option, None}
use Rattle.atomic_table.specs.Table.{rest}
use Rattle.turn_lock.specs.Seats.{added_places}
use Rattle.turn_lock.proofs.Turning.{counts, serves}
use Rattle.turn_lock.proofs.Seating.{turn_stage, some_and, same_slot, counted_and_put, turn_ended, seated_again, gave_back}
use Rattle.turn_lock.proofs.lock.TurnLock.give_back.Goals as goal

pub compare_exchange_with-requires : goal.compare_exchange_with-requires
compare_exchange_with-requires g c = let words = c.self.invariant.0 in
    let taken = some_and _ _ c.requires.turn in
    let turn = turn_stage _ _ _ taken.0 c.seat.invariant.rests (ap (λ z. z.taken) c.seat.view_is ∙ taken.1) in (
      search rules,
      omega arith,
      counts g.V.Grown.entries g.V.Grown.base _ _ _ turn.0 taken.0 c.args.value _ _ turn.1 taken.2 turn.3 c.grown-count.ensures,
    )

pub exchange-before-requires : goal.exchange-before-requires
exchange-before-requires g c =
    let taken = some_and _ _ c.requires.turn in
    let turn = turn_stage _ _ _ taken.0 c.seat.invariant.rests (ap (λ z. z.taken) c.seat.view_is ∙ taken.1) in
    let held = ap (λ m. m.1) (c.compare_exchange_with.ensures.2 turn.0 taken.0 c.args.value turn.1 refl) ∙ turn.2 in (
      search rules,
      (None, held ∙ ap (λ (z : List (ℕ × Option g.row.V.Denot)). (0, None) ∷ z) (sym (ap rest held))),
    )

pub unreachable-requires : goal.unreachable-requires
unreachable-requires g c =
    let taken = some_and _ _ c.requires.turn in
    let turn = turn_stage _ _ _ taken.0 c.seat.invariant.rests (ap (λ z. z.taken) c.seat.view_is ∙ taken.1) in
    let held = ap (λ m. m.1) (c.compare_exchange_with.ensures.2 turn.0 taken.0 c.args.value turn.1 refl) ∙ turn.2 in
    c.in_default.not-None (same_slot _ _ _ _ (sym c.exchange-before.ensures.2 ∙ held))

pub fetch_add-requires : goal.fetch_add-requires
fetch_add-requires g c = let words = c.self.invariant.0 in let slots = c.self.invariant.1 in let x = c.args.value in
    let taken = some_and _ _ c.requires.turn in
    let turn = turn_stage _ _ _ taken.0 c.seat.invariant.rests (ap (λ z. z.taken) c.seat.view_is ∙ taken.1) in
    let full = counted_and_put c.seat.inside.place.me c.compare_exchange_with.new.seat.me c.exchange-before.new.seat.me turn.0 taken.0 (g.V.Grown.entries x) x turn.2 (c.compare_exchange_with.ensures.2 turn.0 taken.0 x turn.1 refl) c.exchange-before.ensures.3 in (
      search rules,
      omega arith,
      serves g.V.Grown.entries g.V.Grown.base _ _ _ turn.0 (g.V.Grown.entries x) x (omega arith) (ap (λ m. m.0.stage) full) (ap (λ m. m.1) full) refl
          (ap (λ m. m.0.base) full ∙ (ap (λ z. z.base) c.seat.view_is ∙ c.requires.base)),
    )

pub invariant_of-seat : goal.invariant_of-seat
invariant_of-seat g c = let x = c.args.value in
    let taken = some_and _ _ c.requires.turn in
    let turn = turn_stage _ _ _ taken.0 c.seat.invariant.rests (ap (λ z. z.taken) c.seat.view_is ∙ taken.1) in
    let full = counted_and_put c.seat.inside.place.me c.compare_exchange_with.new.seat.me c.exchange-before.new.seat.me turn.0 taken.0 (g.V.Grown.entries x) x turn.2 (c.compare_exchange_with.ensures.2 turn.0 taken.0 x turn.1 refl) c.exchange-before.ensures.3 in
    seated_again _ _ c.seat.inside.place _ turn.0 taken.0 (g.V.Grown.entries x) c.seat.invariant (turn_ended c.seat.inside.place.me c.exchange-before.new.seat.me c.fetch_add.new.seat.me turn.0 taken.0 (g.V.Grown.entries x) x full c.fetch_add.ensures.2)

pub returns : goal.returns
returns g c = let x = c.args.value in
    let taken = some_and _ _ c.requires.turn in
    let turn = turn_stage _ _ _ taken.0 c.seat.invariant.rests (ap (λ z. z.taken) c.seat.view_is ∙ taken.1) in
    let full = counted_and_put c.seat.inside.place.me c.compare_exchange_with.new.seat.me c.exchange-before.new.seat.me turn.0 taken.0 (g.V.Grown.entries x) x turn.2 (c.compare_exchange_with.ensures.2 turn.0 taken.0 x turn.1 refl) c.exchange-before.ensures.3 in
    let after = turn_ended c.seat.inside.place.me c.exchange-before.new.seat.me c.fetch_add.new.seat.me turn.0 taken.0 (g.V.Grown.entries x) x full c.fetch_add.ensures.2 in
    let table = c.fetch_add.ensures.0 ∙ (c.exchange-before.ensures.0 ∙ c.compare_exchange_with.ensures.0) in
    let now = c.seat.view_is in
    gave_back c.seat.inside.place c.fetch_add.new.seat turn.0 taken.0 (g.V.Grown.entries x) table turn.1 after
    ∙ (λ k. record {
      lock = (now k).lock;
      seen = g.V.Grown.entries x;
      own = (now k).own ++ added_places (now k).taken (g.V.Grown.entries x);
      weight = (now k).weight;
      base = (now k).base;
      taken = None;
    })
