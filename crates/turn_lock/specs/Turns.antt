-- The rule of a turn lock: what its table is between any two steps, whoever makes them. [own, after the ticket lock]
-- The words are the next ticket, the ticket that is served, the number of entries, and the weight that lies in the bank.
use Rattle.std.specs.Prelude.{◌≡◌, ◌⊎◌, ℕ, ◌+◌, ◌<◌, ◌≤◌, ◌^◌, ◌++◌, List, [], ◌∷◌, length, Option, Some, None}
use mathlib.Core.Option.{some, none}
use mathlib.Core.List.{IsPrefix}
use lib.ListN.{get_elem?}
use Rattle.atomic_table.specs.Table.{State}
use Rattle.turn_lock.specs.Places.{total, times, once_below, longer}
use Rattle.turn_lock.specs.declared.view.View.{View}
use Rattle.turn_lock.specs.declared.view.Stage.{Stage}
use Rattle.turn_lock.specs.declared.view.Stage.TheVariants.{Free, Waiting, Turn, Joining}

-- the weight of all seats together
abbrev pub whole_weight : ℕ
whole_weight = 2 ^ 62

module _ {E B : Type 0} where
  -- the view of a lock's first seat
  abbrev pub first_view : B → View E B
  first_view base = record { seen = []; own = []; weight = whole_weight; base = Some base; stage = Free }

  -- the view of a new seat, split off one with the view v
  abbrev pub split_view : View E B → View E B
  split_view v = record { seen = v.seen; own = []; weight = 0; base = v.base; stage = Free }

  -- the view of a seat that takes in another, until it has looked once more
  abbrev pub joined_view : View E B → View E B → View E B
  joined_view v w = record { seen = longer v.seen w.seen; own = v.own ++ w.own; weight = v.weight + w.weight; base = v.base; stage = Joining v.seen w.seen }

  -- the view of a seat that was joined to another
  abbrev pub spent_view : View E B
  spent_view = record { seen = []; own = []; weight = 0; base = None; stage = Free }

-- a view that isn't spent carries the lock's base
abbrev pub Carries : {B : Type 0} → B → Option B → Type 0
Carries root (Some base) = root ≡ base
Carries root None = Unit {0}

-- it has drawn no ticket whose turn isn't over
abbrev pub HasNoTicket : {E : Type 0} → Stage E → Type 0
HasNoTicket Free = Unit {0}
HasNoTicket (Waiting t) = ⊥
HasNoTicket (Turn t taken) = ⊥
HasNoTicket (Joining xs ys) = Unit {0}

-- it holds the turn
abbrev pub HasTurn : {E : Type 0} → Stage E → Type 0
HasTurn Free = ⊥
HasTurn (Waiting t) = ⊥
HasTurn (Turn t taken) = Unit {0}
HasTurn (Joining xs ys) = ⊥

module _ {E : Type 0} (ticket serving : ℕ) (history : List E) (holder : ℕ → ℕ) (seat : ℕ) where
  -- A ticket that is out lies from the one that is served on and below the next one, in one view alone: its holder's.
  -- The view with the turn has the ticket that is served, and what it took is the whole history.
  abbrev pub StageHolds : Stage E → Type 0
  StageHolds Free = Unit {0}
  StageHolds (Waiting t) = (serving ≤ t) × (t < ticket) × (holder t ≡ seat)
  StageHolds (Turn t taken) = (serving ≡ t) × (t < ticket) × (holder t ≡ seat) × (taken ≡ history)
  StageHolds (Joining xs ys) = IsPrefix xs history × IsPrefix ys history

-- What holds of each view, whether the value is at home or out: what was seen begins the history, and a view of weight 0 has no ticket and owns nothing.
pub record ViewHolds {E B : Type 0} (ticket serving : ℕ) (history : List E) (root : B) (holder : ℕ → ℕ) (seat : ℕ) (v : View E B) : Type 0 where
  pub begins : IsPrefix v.seen history
  pub carries : Carries root v.base
  pub stage_holds : StageHolds ticket serving history holder seat v.stage
  pub weightless : v.weight ≡ 0 → HasNoTicket v.stage × (v.own ≡ [])

module _ {T E B : Type 0} (entries : T → List E) (base : T → B) where
  -- the value is at home, it stands for the whole history, and no view has the turn
  pub record IsHome (history : List E) (root : B) (s : State (Option T) (View E B)) : Type 0 where
    pub value : T
    pub home : get_elem? s.homes 0 ≡ some (some (Some value))
    pub whole : entries value ≡ history
    pub based : base value ≡ root
    pub no_turn : (seat : ℕ) (v : View E B) → get_elem? s.views seat ≡ some v → ¬ (HasTurn v.stage)

  -- the slot is out, and a view has the turn
  pub record IsOut (s : State (Option T) (View E B)) : Type 0 where
    pub seat : ℕ
    pub view : View E B
    pub there : get_elem? s.views seat ≡ some view
    pub turn : HasTurn view.stage
    pub away : get_elem? s.homes 0 ≡ some none

  -- The rule. There is one history, of as many entries as are counted, and one base.
  pub record IsOrderly (s : State (Option T) (View E B)) : Type 0 where
    pub ticket : ℕ
    pub serving : ℕ
    pub history : List E
    pub root : B
    -- the seat that drew each ticket
    pub holder : ℕ → ℕ
    pub bank : ℕ
    pub words : s.words ≡ ticket ∷ serving ∷ length history ∷ bank ∷ []
    pub bounded : ticket < 2 ^ 64
    pub ordered : serving ≤ ticket
    pub each_view : (seat : ℕ) (v : View E B) → get_elem? s.views seat ≡ some v → ViewHolds ticket serving history root holder seat v
    -- each place of the history is own to one view, where it stands once
    pub owned : (place : ℕ) → total (λ v. times place v.own) s.views ≡ once_below place (length history)
    -- all weight is in the views and in the bank
    pub weighed : total (λ v. v.weight) s.views + bank ≡ whole_weight
    -- the slot is out exactly while a view has the turn
    pub slot : IsHome history root s ⊎ IsOut s
