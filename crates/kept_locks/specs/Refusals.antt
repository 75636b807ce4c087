-- What the index of spent ids says, and what is shown of a chain of them.
use Rattle.std.specs.Prelude.{◌≡◌, ◌≢◌, ℕ, ◌+◌, ◌*◌, ◌-◌, ◌^◌, ◌<◌, ◌≤◌, Bool, true, false, cond, List, [], ◌∷◌, length, Option, None, Some, max, min, nat_lt, if◌then◌else◌}
use Rattle.std.specs.HashMap.{HashMap, get, spare}
use Rattle.std.specs.List.{IsAmong}
use Rattle.wopi_model.specs.Act.{is_spent}
use Rattle.wopi_model.specs.Settle.{still_spent}
use Rattle.wopi_model.specs.declared.locks.Spent.{Spent}
use Rattle.expiry_queue.specs.Chains.{Chains, Becomes, spent_of}
use Rattle.kept_locks.specs.declared.index.SpentOn.{SpentOn}
use Rattle.kept_locks.specs.declared.trail.Trail.{Trail}
use Rattle.kept_locks.specs.Keys.{is_same}

-- that moment is before the end
abbrev pub ends_after : ℕ → Option ℕ → Bool
ends_after now None = false
ends_after now (Some until) = nat_lt now until

-- the later one of two ends
abbrev pub later_of : ℕ → Option ℕ → ℕ
later_of until None = until
later_of until (Some known) = max until known

-- the index has the id of the file as refused at that moment
abbrev pub refused_by : {S : Type 0} → HashMap SpentOn ℕ S → ℕ → List ℕ → ℕ → Bool
refused_by index file id now = ends_after now (get is_same index (record { file = file; id = id }))

-- the index has the id of the file, with that end
abbrev pub HasEnd : {S : Type 0} → HashMap SpentOn ℕ S → ℕ → List ℕ → ℕ → Type 0
HasEnd index file id until = get is_same index (record { file = file; id = id }) ≡ Some until

-- what the index has of the file is of these ids, and no others: each entry has the id and the end of one of them
abbrev pub HasOnly : {S : Type 0} → HashMap SpentOn ℕ S → ℕ → List Spent → Type 0
HasOnly index file ids = (id : List ℕ) (until : ℕ) → HasEnd index file id until → IsAmong ids (record { id = id; until = until })

-- the index has the same of all other files
abbrev pub OthersStay : {S : Type 0} → HashMap SpentOn ℕ S → HashMap SpentOn ℕ S → ℕ → Type 0
OthersStay old new file = (other : ℕ) (id : List ℕ) → other ≢ file → get is_same new (record { file = other; id = id }) ≡ get is_same old (record { file = other; id = id })

-- under that key the index has the later one of that end and its own, and under all others what it had
abbrev pub Notes : {S : Type 0} → HashMap SpentOn ℕ S → HashMap SpentOn ℕ S → SpentOn → ℕ → Type 0
Notes old new key until = (one : SpentOn) → get is_same new one ≡ cond (is_same key one) (Some (later_of until (get is_same old key))) (get is_same old one)

-- an end that is over at that moment has gone
abbrev pub unless_over : ℕ → Option ℕ → Option ℕ
unless_over now end = cond (ends_after now end) end None

-- under that key the index has its end, or none where that is over, and under all others what it had
abbrev pub Forgets : {S : Type 0} → HashMap SpentOn ℕ S → HashMap SpentOn ℕ S → SpentOn → ℕ → Type 0
Forgets old new key now = (one : SpentOn) → get is_same new one ≡ cond (is_same key one) (unless_over now (get is_same old key)) (get is_same old one)

-- only ends that are over at that moment went out of the index, and only of that file
pub record Sheds {S : Type 0} (old new : HashMap SpentOn ℕ S) (file now : ℕ) : Type 0 where
  pub others : OthersStay old new file
  pub less : (id : List ℕ) (until : ℕ) → HasEnd new file id until → HasEnd old file id until
  pub keeps : (id : List ℕ) (until : ℕ) → HasEnd old file id until → now < until → HasEnd new file id until
  pub spare : spare old ≤ spare new

-- The index, before and after a file's trail became another one, for which it had at most so many entries more. A told trail stays told where there was room for them.
pub record Reindexes {S : Type 0} (old new : HashMap SpentOn ℕ S) (file : ℕ) (trail result : Trail) (more : ℕ) : Type 0 where
  pub others : OthersStay old new file
  pub told : trail.told ≡ true → more ≤ spare old → result.told ≡ true
  pub spare : spare old ≤ spare new + more

-- the ids of the one list, from the last on, before those of the other
abbrev pub onto : List Spent → List Spent → List Spent
onto [] kept = kept
onto (one ∷ rest) kept = onto rest (one ∷ kept)

-- a chain takes as many places as it has ids, and no other chain takes more or fewer
pub record Counts (old new : Chains) (chain result : Option ℕ) : Type 0 where
  pub used : new.used + length (spent_of old chain) ≡ old.used + length (spent_of new result)
  pub room : new.used + new.spare ≡ old.used + old.spare

-- the ids of a trail: those of its chain, without the ones that were over when the file was stepped
abbrev pub shown_of : Chains → Trail → List Spent
shown_of chains trail = if trail.purged then spent_of chains trail.chain else still_spent (spent_of chains trail.chain) trail.as_of

-- so many ids, as a count in 64 bits has them
abbrev pub count_of : List Spent → ℕ
count_of ids = min (length ids) (2 ^ 64 - 1)

-- The ids of a trail are counted, and are at most 8 or twice those that the last purge left. Where nothing but ids came since that purge, they are at most so many more than it left. An empty chain is told.
pub record IsCounted (chains : Chains) (trail : Trail) (more : ℕ) : Type 0 where
  pub count : trail.count ≡ count_of (spent_of chains trail.chain)
  pub short : trail.count ≤ max 8 (2 * trail.left)
  pub fresh : trail.purged ≡ true → trail.count ≤ trail.left + more
  pub told : trail.count ≡ 0 → trail.told ≡ true

-- the last purge left as many as the one before, or no more than are shown now
abbrev pub LeavesFew : Chains → Trail → Trail → Type 0
LeavesFew new trail result = result.left ≤ max trail.left (length (shown_of new result))

-- a chain that became shorter was purged, and its last purge left no more than it has
abbrev pub FallsTo : Chains → Chains → Trail → Trail → Type 0
FallsTo old new trail result = length (spent_of new result.chain) < length (spent_of old trail.chain) → result.left ≤ length (spent_of new result.chain)

-- where the trail is told: at each moment from the last step on, that tells of each id whether the chain refuses it
abbrev pub Tells : (List ℕ → ℕ → Bool) → Chains → Trail → Type 0
Tells refused chains trail = trail.told ≡ true → (id : List ℕ) (now : ℕ) → trail.as_of ≤ now → refused id now ≡ is_spent (still_spent (spent_of chains trail.chain) now) id

-- the same trail, or another one, after a step
pub record Goes (old new : Chains) (trail result : Trail) (shown : List Spent) : Type 0 where
  pub becomes : Becomes old.cells new.cells trail.chain result.chain (spent_of new result.chain)
  pub shows : shown_of new result ≡ shown
  pub counts : Counts old new trail.chain result.chain
