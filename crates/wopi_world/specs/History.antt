-- A shard over restarts of its host: what happens in one run of it, and what a restart does.
use Rattle.std.specs.Prelude.{◌≡◌, ◌⊎◌, ⊤, ℕ, ◌+◌, ◌-◌, ◌<◌, max, List, [], ◌∷◌, ◌++◌, Option, None, Some}
use Rattle.wopi_model.specs.File.{File, never_met, opened_with}
use Rattle.wopi_model.specs.Shard.{Shard, Opening, Tick, Step, opened_shard}
use Rattle.wopi_model.specs.Shard as run

-- what happened in a run, or a restart at that moment, after which files begin with that version
pub data Item : Type 0 where
  Ran : (item : run.Item) → Item
  Restarted : (moment : ℕ) (first : ℕ) → Item

-- a file of those contents, or a name that was never met
abbrev pub reopened : ℕ → Option (List ℕ) → File
reopened first None = never_met first
reopened first (Some bytes) = opened_with first bytes

-- Contents stay; each file that exists begins again at that version, and all other names were never met.
abbrev pub restarted : Shard → ℕ → ℕ → Shard
restarted shard moment first =
    record { opened = moment; first = first; now = moment; files = λ name. reopened first (shard.files name).contents }

abbrev pub happens : Shard → Item → Shard
happens shard (Ran item) = run.happens shard item
happens shard (Restarted moment first) = restarted shard moment first

-- the shard after the items, in order
abbrev pub after : Shard → List Item → Shard
after shard [] = shard
after shard (item ∷ items) = after (happens shard item) items

-- P holds of each item at its place, after the items before it
abbrev pub Along : (Shard → Item → Type 0) → Shard → List Item → Type 0
Along P shard [] = ⊤
Along P shard (item ∷ items) = P shard item × Along P (happens shard item) items

-- an entry's ruling is an outcome of the step at its place, and a restart is later than all before
abbrev pub IsAllowed : Shard → Item → Type 0
IsAllowed shard (Ran item) = run.IsAllowed shard item
IsAllowed shard (Restarted moment first) = shard.now < moment

-- the number is one more than the greatest of `first - 1` and all versions
pub record IsNextFirst (shard : Shard) (next : ℕ) : Type 0 where
  pub least : shard.first - 1 < next
  pub above : (name : List ℕ) → (shard.files name).version < next
  pub reached : (next ≡ shard.first - 1 + 1) ⊎ ((name : List ℕ) × (next ≡ (shard.files name).version + 1))

-- a restart begins with that number
abbrev pub BeginsNext : Shard → Item → Type 0
BeginsNext shard (Ran item) = ⊤
BeginsNext shard (Restarted moment first) = IsNextFirst shard first

-- stamps rise strictly between two restarts, the first of them above that number
abbrev pub RisesBetween : ℕ → List Item → Type 0
RisesBetween low [] = ⊤
RisesBetween low (Ran (Tick moment) ∷ items) = RisesBetween low items
RisesBetween low (Ran (Step entry) ∷ items) = (low < entry.stamp) × RisesBetween entry.stamp items
RisesBetween low (Restarted moment first ∷ items) = RisesBetween 0 items

-- a history that a shard may have over restarts
pub record Legal (opening : Opening) (opened first : ℕ) (history : List Item) : Type 0 where
  pub allowed : Along IsAllowed (opened_shard opening opened first) history
  pub begins : Along BeginsNext (opened_shard opening opened first) history
  pub stamps : RisesBetween 0 history

-- those items and what ran after them, since the last restart
abbrev pub ran_from : List run.Item → List Item → List run.Item
ran_from seen [] = seen
ran_from seen (Ran item ∷ items) = ran_from (seen ++ item ∷ []) items
ran_from seen (Restarted moment first ∷ items) = ran_from [] items

-- what ran since the last restart
abbrev pub last_run : List Item → List run.Item
last_run history = ran_from [] history

-- the names of an opening
abbrev pub opening_names : Opening → List (List ℕ)
opening_names [] = []
opening_names (file ∷ opening) = file.0 ∷ opening_names opening

-- the names of the entries, the last one first, and behind them those names
abbrev pub names_after : List (List ℕ) → List Item → List (List ℕ)
names_after names [] = names
names_after names (Ran (Tick moment) ∷ items) = names_after names items
names_after names (Ran (Step entry) ∷ items) = names_after (entry.call.name ∷ names) items
names_after names (Restarted moment first ∷ items) = names_after names items

-- the greatest of their versions, at least that of a name never met
abbrev pub greatest : Shard → List (List ℕ) → ℕ
greatest shard [] = shard.first - 1
greatest shard (name ∷ names) = max (shard.files name).version (greatest shard names)
