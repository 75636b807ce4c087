-- What each kind of step tells the seat that makes it. [own]
use Rattle.std.specs.Prelude.{◌≡◌, ◌≢◌, ℕ, ◌+◌, ◌-◌, ◌≤◌, List, ◌∷◌, ◌++◌, Option, Some}
use mathlib.Core.Option.{some}
use mathlib.Core.List.{IsPrefix}
use Rattle.atomic_table.specs.Table.{Me, Step, rest}
use Rattle.atomic_table.specs.declared.shared.Seat.{Seat}
use Rattle.turn_lock.specs.Places.{AreDistinct, places_behind, longer}
use Rattle.turn_lock.specs.Turns.{Carries, whole_weight}
use Rattle.turn_lock.specs.declared.view.View.{View}
use Rattle.turn_lock.specs.declared.view.Stage.{Stage}
use Rattle.turn_lock.specs.declared.view.Stage.TheVariants.{Free, Waiting, Turn, Joining}

-- how a seat stands: its view, and the slots that it has, each with its value
abbrev pub Standing : Type 0 → Type 0 → Type 0 → Type 0
Standing T E B = Me (Option T) (View E B)

module _ {E B : Type 0} where
  abbrev pub with_stage : View E B → Stage E → View E B
  with_stage v now = record { seen = v.seen; own = v.own; weight = v.weight; base = v.base; stage = now }

  abbrev pub with_weight : View E B → ℕ → View E B
  with_weight v n = record { seen = v.seen; own = v.own; weight = n; base = v.base; stage = v.stage }

  -- all of `whole` was seen, and what it has behind the list that was taken is the view's own
  abbrev pub with_counted : View E B → ℕ → List E → List E → View E B
  with_counted v t taken whole = record { seen = whole; own = v.own ++ places_behind taken whole; weight = v.weight; base = v.base; stage = Turn t whole }

module _ {T E B : Type 0} where
  -- a step changes neither whose seat it is nor at which table
  abbrev pub IsSameSeat : Seat (Option T) (View E B) → Seat (Option T) (View E B) → Type 0
  IsSameSeat p q = (q.table_id ≡ p.table_id) × (q.id ≡ p.id)

  -- a ticket was drawn where the word was as expected, and else nothing changed
  abbrev pub Draws : Step (Option T) → Standing T E B → ℕ → Standing T E B → Type 0
  Draws st m found m' = (found ≡ st.first → m' ≡ (with_stage m.0 (Waiting found), m.1)) × (found ≢ st.first → m' ≡ m)

  -- the turn of the ticket t has come, and the slot is out with the value
  abbrev pub TurnComes : (T → List E) → (T → B) → ℕ → Standing T E B → Standing T E B → Type 0
  TurnComes entries base t m m' = (x : T) × (m' ≡ (with_stage m.0 (Turn t (entries x)), (0, Some x) ∷ m.1)) × IsPrefix m.0.seen (entries x) × Carries (base x) m.0.base

  -- the turn has come where the ticket that is served is the seat's, and else nothing changed
  abbrev pub Looks : (T → List E) → (T → B) → Step (Option T) → Standing T E B → ℕ → Standing T E B → Type 0
  Looks entries base st m found m' = (t : ℕ) → m.0.stage ≡ Waiting t → (found ≡ t → TurnComes entries base t m m') × (found ≢ t → m' ≡ m)

  -- the entries of the value that is announced are counted
  abbrev pub Counts : (T → List E) → Step (Option T) → Standing T E B → ℕ → Standing T E B → Type 0
  Counts entries st m found m' = (t : ℕ) (taken : List E) (x : T) → m.0.stage ≡ Turn t taken → st.said ≡ some (Some x) → m' ≡ (with_counted m.0 t taken (entries x), m.1)

  -- the turn is over, and the slot is at home
  abbrev pub Serves : Step (Option T) → Standing T E B → ℕ → Standing T E B → Type 0
  Serves st m found m' = m' ≡ (with_stage m.0 Free, rest m.1)

  -- both lists that were joined begin the one history, no place is own to both, and the weight is at most the whole
  pub record Settles (st : Step (Option T)) (m : Standing T E B) (found : ℕ) (m' : Standing T E B) : Type 0 where
    pub free : m' ≡ (with_stage m.0 Free, m.1)
    pub distinct : AreDistinct m.0.own
    pub bounded : m.0.weight ≤ whole_weight
    pub begin : (xs ys : List E) → m.0.stage ≡ Joining xs ys → IsPrefix xs (longer xs ys) × IsPrefix ys (longer xs ys)

  -- weight was lent to the bank
  abbrev pub Lends : Step (Option T) → Standing T E B → ℕ → Standing T E B → Type 0
  Lends st m found m' = m' ≡ (with_weight m.0 (m.0.weight - st.first), m.1)

  -- weight was fetched where the bank was as expected, and else nothing changed
  abbrev pub Fetches : Step (Option T) → Standing T E B → ℕ → Standing T E B → Type 0
  Fetches st m found m' = (found ≡ st.first → m' ≡ (with_weight m.0 (m.0.weight + (st.first - st.second)), m.1)) × (found ≢ st.first → m' ≡ m)
