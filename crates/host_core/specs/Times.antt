-- A history as its entries alone, where time goes on with them. (Own.)
use Rattle.std.specs.Prelude.{◌≡◌, ⊤, ℕ, max, Bool, true, false, List, [], ◌∷◌, map}
use Rattle.wopi_model.specs.Shard.{Item, Step, Entry}
use Rattle.host_core.specs.Entries.{Made, history_of}

abbrev pub steps_of : List Made → List Entry
steps_of made = map (λ one. one.step) made

-- The entries without the ticks between them. Where time goes on with entries alone, the ticks change nothing.
abbrev pub untimed : List Made → List Item
untimed made = map Step (steps_of made)

-- the time of the last entry, or that time where there is none
abbrev pub last_time : ℕ → List Made → ℕ
last_time time [] = time
last_time time (one ∷ made) = last_time one.time made

-- time begins there, and goes on with entries alone
abbrev pub IsTimely : ℕ → List Made → Type 0
IsTimely time [] = ⊤
IsTimely time (one ∷ made) = (one.time ≡ max time one.step.moment) × IsTimely one.time made

-- time went on with entries alone, up to this moment
pub record GoesByEntries (opened : ℕ) (made : List Made) (time : ℕ) : Type 0 where
  pub timely : IsTimely opened made
  pub time_is : time ≡ last_time opened made

-- what has happened: the entries alone, or with their ticks where time was ever set apart from an entry
abbrev pub happened_of : Bool → List Made → ℕ → List Item
happened_of true made time = history_of made time
happened_of false made time = untimed made
