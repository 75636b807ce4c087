-- What is told of a log.
use Rattle.std.specs.Prelude.{◌≡◌, ◌≤◌, ℕ, List, ◌++◌, length, take, Option, None, Some, ⊤}
use Rattle.std.specs.Io.KnownBytes.{Appends}

-- the whole begins with the front, where both are told
abbrev pub IsFront : Option (List ℕ) → Option (List ℕ) → Type 0
IsFront front whole = (rest : List ℕ) × Appends front whole rest

abbrev pub HasLength : Option (List ℕ) → ℕ → Type 0
HasLength None count = ⊤
HasLength (Some bytes) count = length bytes ≡ count

-- of the old bytes the first so many are left, and there were as many
abbrev pub IsCutAt : ℕ → Option (List ℕ) → Option (List ℕ) → Type 0
IsCutAt count None new = ⊤
IsCutAt count (Some old) None = ⊥
IsCutAt count (Some old) (Some new) = (new ≡ take count old) × (count ≤ length old)
