-- What is told of a stream, and what a call on one direction of a link leaves as it is.
use Rattle.std.specs.Prelude.{◌≡◌, ℕ, List, [], ◌++◌, Option, None, Some, ⊤}
use Rattle.std.specs.Io.KnownBytes.{Appends, Consumes}

-- the other direction's bytes, where they are told, and how often it failed; and the references that the link is made of
pub record Beside : Type 0 where
  pub bytes : Option (List ℕ)
  pub faults : ℕ
  pub references : List ℕ

-- no other direction
abbrev pub nothing : Beside
nothing = record { bytes = None; faults = 0; references = [] }

-- they are these bytes, where they are told
abbrev pub Are : Option (List ℕ) → List ℕ → Type 0
Are None bytes = ⊤
Are (Some told) bytes = told ≡ bytes

-- they grew by a front of these bytes, where they are told
abbrev pub GrewByPrefix : Option (List ℕ) → Option (List ℕ) → List ℕ → Type 0
GrewByPrefix old new bytes = (front : List ℕ) × (rest : List ℕ) × (bytes ≡ front ++ rest) × Appends old new front

-- P holds of all that was read of the input, up to what is left of the source, where both are told.
pub record IsCut (input left : Option (List ℕ)) (P : List ℕ → Type 0) : Type 0 where
  pub bytes : List ℕ
  pub read : Consumes input left bytes
  pub says : P bytes
