-- The place of a name.
use Rattle.std.specs.Prelude.{◌≡◌, ⊤, ℕ, suc, List, [], ◌∷◌, Option, None, Some, option_map, if◌then◌else◌}
use Rattle.std.specs.Str.{bytes_eq}
use Rattle.host_core.specs.Opening.{MayKeep}
use Rattle.name_index.specs.Index.{number_of}

-- the first of that name
abbrev pub place_in : {A : Type 0} → List (List ℕ × A) → List ℕ → Option ℕ
place_in [] name = None
place_in (one ∷ rest) name = if bytes_eq one.0 name then Some 0 else option_map (λ place. suc place) (place_in rest name)

-- each name stands there once
abbrev pub AreOnce : {A : Type 0} → List (List ℕ × A) → Type 0
AreOnce [] = ⊤
AreOnce (one ∷ rest) = (place_in rest one.0 ≡ None) × AreOnce rest

-- each is the name of a file of the shard
abbrev pub AreOwn : {A : Type 0} → ℕ → List (List ℕ × A) → Type 0
AreOwn shard [] = ⊤
AreOwn shard (one ∷ rest) = MayKeep (Some shard) one.0 × AreOwn shard rest

-- the numbers of names are their places
abbrev pub IsNumbered : {A : Type 0} → List (List ℕ × ℕ) → List (List ℕ × A) → Type 0
IsNumbered names files = (name : List ℕ) → number_of names name ≡ place_in files name
