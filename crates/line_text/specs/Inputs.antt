-- What was read of an input. (Own.)
use Rattle.std.specs.Prelude.{ℕ, List, Option}
use Rattle.std.specs.Io.KnownBytes.{Consumes}

-- These are all the bytes that were read, where they are told, and P holds of them.
pub record HasRead (left left' : Option (List ℕ)) (P : List ℕ → Type 0) : Type 0 where
  pub bytes : List ℕ
  pub read : Consumes left left' bytes
  pub says : P bytes
