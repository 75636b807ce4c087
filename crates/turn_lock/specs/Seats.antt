-- A seat as callers see it. [own]
use Rattle.std.specs.Prelude.{◌≡◌, ℕ, ◌<◌, ◌≤◌, List, [], ◌∷◌, length, Option, Some, None, IsSome}
use Rattle.atomic_table.specs.Seated.{TableId}
use Rattle.atomic_table.specs.declared.shared.Seat.{Seat}
use Rattle.turn_lock.specs.Places.{places_behind}
use Rattle.turn_lock.specs.Turns.{whole_weight}
use Rattle.turn_lock.specs.declared.view.View.{View}
use Rattle.turn_lock.specs.declared.view.Stage.{Stage}
use Rattle.turn_lock.specs.declared.view.Stage.TheVariants.{Free, Waiting, Turn, Joining}

-- the lock, the list that was seen, the places that are the seat's own, its weight, the lock's base and, while the seat holds the turn, the list that was taken
pub record SeatValue (E B : Type 0) : Type 0 where
  pub lock : TableId
  pub seen : List E
  pub own : List ℕ
  pub weight : ℕ
  pub base : Option B
  pub taken : Option (List E)

-- a lock's first seat has seen nothing and has all of the weight
abbrev pub first_seat : {E B : Type 0} → TableId → B → SeatValue E B
first_seat lock base = record { lock = lock; seen = []; own = []; weight = whole_weight; base = Some base; taken = None }

-- the places that a list has behind those of the list that was taken
abbrev pub added_places : {E : Type 0} → Option (List E) → List E → List ℕ
added_places None whole = []
added_places (Some taken) whole = places_behind taken whole

abbrev pub taken_of : {E : Type 0} → Stage E → Option (List E)
taken_of Free = None
taken_of (Waiting t) = None
taken_of (Turn t taken) = Some taken
taken_of (Joining xs ys) = None

-- between two calls a seat has no ticket and no slot, or it has the turn, the slot, which is empty, and the length of the list that was taken
abbrev pub Rests : {T E : Type 0} → ℕ → List (ℕ × Option T) → Stage E → Type 0
Rests count carried Free = carried ≡ []
Rests count carried (Waiting t) = ⊥
Rests count carried (Turn t taken) = (carried ≡ (0, None) ∷ []) × (count ≡ length taken)
Rests count carried (Joining xs ys) = ⊥

module _ {T E B : Type 0} where
  abbrev pub seated : Seat (Option T) (View E B) → SeatValue E B
  seated p = record { lock = p.table_id; seen = p.me.0.seen; own = p.me.0.own; weight = p.me.0.weight; base = p.me.0.base; taken = taken_of p.me.0.stage }

  -- what each seat keeps between two calls
  pub record IsSeated (weight count : ℕ) (p : Seat (Option T) (View E B)) : Type 0 where
    pub weight_is : weight ≡ p.me.0.weight
    pub heavy : 0 < p.me.0.weight
    pub bounded : p.me.0.weight ≤ whole_weight
    pub live : IsSome p.me.0.base
    pub rests : Rests count p.me.1 p.me.0.stage
