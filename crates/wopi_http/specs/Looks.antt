-- What was looked at at the front of an input.
use Rattle.std.specs.Prelude.{ℕ, ◌≡◌, Bool, List, [], ◌++◌, length, Option, IsTrue}
use Rattle.outside.specs.Stream.{Are}

-- P holds of the first n bytes of the input, where it is told; `ended` says that they are all of it.
pub record LooksAt (input : Option (List ℕ)) (n : ℕ) (P : List ℕ → Bool → Type 0) : Type 0 where
  pub bytes : List ℕ
  pub more : List ℕ
  pub ended : Bool
  pub begins : Are input (bytes ++ more)
  pub whole : IsTrue ended → more ≡ []
  pub count : length bytes ≡ n
  pub says : P bytes ended
