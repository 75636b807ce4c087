-- Words that may be the path of a file with a secret. (Own.)
use Rattle.std.specs.Prelude.{◌≡◌, ◌≢◌, ◌⊎◌, ℕ, ◌||◌, if◌then◌else◌, List, [], ◌∷◌, ◌++◌, codes, Option, None, Some, slice_get}
use Rattle.std.specs.Str.{bytes_eq}

-- where KEY stands, and of `edit` TOKEN
unfoldable pub place_of : List ℕ → Option ℕ
place_of name =
    if bytes_eq name (codes "token") || bytes_eq name (codes "ctoken") then Some 1
    else if bytes_eq name (codes "once") then Some 2
    else if bytes_eq name (codes "serve") || bytes_eq name (codes "edit") then Some 3
    else None

-- the same of a command's words
abbrev pub secret_place_of : List (List ℕ) → Option ℕ
secret_place_of [] = None
secret_place_of (name ∷ words) = place_of name

-- the secret of the command has that place, and `@` and that path stand there
pub record IsSecretAt (words : List (List ℕ)) (place : ℕ) (path : List ℕ) : Type 0 where
  pub name : List ℕ
  pub rest : List (List ℕ)
  pub words_are : words ≡ name ∷ rest
  pub place_is : place_of name ≡ Some place
  pub stands : slice_get words place ≡ Some (64 ∷ path)

-- the text without a line feed at its end
abbrev pub IsWithoutFeed : List ℕ → List ℕ → Type 0
IsWithoutFeed text secret = (text ≡ secret ++ (10 ∷ [])) ⊎ ((secret ≡ text) × ((front : List ℕ) → text ≢ front ++ (10 ∷ [])))
