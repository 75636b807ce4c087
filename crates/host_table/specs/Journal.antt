-- What a host leaves behind. (Own.)
use Rattle.std.specs.Prelude.{◌≡◌, ⊤, ℕ, ◌+◌, ◌*◌, ◌==◌, Option, None, Some, List, [], ◌∷◌, ◌++◌, filter, slice_get}
use Rattle.std.specs.List.{AllByRecursion}
use Rattle.wopi_model.specs.Shard.{Opening}
use Rattle.wopi_model.specs.Host.{shard_of_entry}
use Rattle.host_core.specs.Entries.{Made}
use Rattle.host_core.specs.Fullness.{WasNearlyFull}
use Rattle.host_core.specs.Times.{untimed}
use Rattle.host_core.specs.Value.{Left}
use Rattle.host_table.specs.declared.journal.Spot.{Spot}

-- when the host opened, the version of the files that it began with, what each shard leaves, and all entries in their order
pub record JournalView (F : Type 0) : Type 0 where
  pub opened : ℕ
  pub first : ℕ
  pub parts : List (Left F)
  pub merge : List Made

-- an entry's place in the order: by stamp, and at one stamp by shard
abbrev pub order_of : Spot → ℕ
order_of spot = spot.stamp * 16 + spot.shard

-- where a shard's entries stand, from that place on
abbrev pub spots_from : ℕ → ℕ → List Made → List Spot
spots_from shard place [] = []
spots_from shard place (one ∷ made) = record { stamp = one.step.stamp; shard = shard; place = place } ∷ spots_from shard (place + 1) made

abbrev pub with_found : Option Made → List Made → List Made
with_found None rest = rest
with_found (Some one) rest = one ∷ rest

abbrev pub IsFound : Option Made → Type 0
IsFound None = ⊥
IsFound (Some one) = ⊤

module _ {F : Type 0} where
  -- those of all shards, from that number on
  abbrev pub all_spots : ℕ → List (Left F) → List Spot
  all_spots shard [] = []
  all_spots shard (part ∷ parts) = spots_from shard 0 part.made ++ all_spots (shard + 1) parts

  abbrev pub made_in : Option (Left F) → ℕ → Option Made
  made_in None place = None
  made_in (Some part) place = slice_get part.made place

  -- the entry that stands there
  abbrev pub found : List (Left F) → Spot → Option Made
  found parts spot = made_in (slice_get parts spot.shard) spot.place

  abbrev pub merge_of : List (Left F) → List Spot → List Made
  merge_of parts [] = []
  merge_of parts (spot ∷ spots) = with_found (found parts spot) (merge_of parts spots)

  -- an entry stands at each of these
  abbrev pub AreFound : List (Left F) → List Spot → Type 0
  AreFound parts spots = AllByRecursion (λ spot. IsFound (found parts spot)) spots

  -- the opening files of all shards, by shard
  abbrev pub openings : List (Left F) → Opening
  openings [] = []
  openings (part ∷ parts) = part.opening ++ openings parts

  abbrev pub opening_in : Option (Left F) → ℕ → Option (List ℕ × List ℕ)
  opening_in None place = None
  opening_in (Some part) place = slice_get part.opening place

  -- what a shard leaves shows that it was nearly full
  abbrev pub IsNearlyFullIn : ℕ → Option (Left F) → Type 0
  IsNearlyFullIn capacity None = ⊥
  IsNearlyFullIn capacity (Some part) = WasNearlyFull capacity part.opening (untimed part.made)

  -- each shard's entries are those of the merge that stand in it
  abbrev pub AreParts : List Made → ℕ → List (Left F) → Type 0
  AreParts merge shard [] = ⊤
  AreParts merge shard (part ∷ parts) = (part.made ≡ filter (λ one. shard_of_entry one.step == shard) merge) × AreParts merge (shard + 1) parts
