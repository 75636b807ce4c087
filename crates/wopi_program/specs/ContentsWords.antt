-- The words of the command `contents`. (Own.)
use Rattle.std.specs.Prelude.{◌≡◌, ◌<◌, ◌^◌, ℕ, List, [], ◌∷◌, codes, decimal}
use Rattle.wopi_text.specs.FileName.{IsFileName}
use Rattle.wopi_text.specs.Ids.{id_of}

-- contents ID VERSION
pub record IsContentsRow (words : List (List ℕ)) (name : List ℕ) (version : ℕ) : Type 0 where
  pub words_are : words ≡ codes "contents" ∷ id_of name ∷ decimal version ∷ []
  pub name_is : IsFileName name
  pub version_is : version < 2 ^ 64

-- the words are those of some `contents`
abbrev pub IsContents : List (List ℕ) → Type 0
IsContents words = (name : List ℕ) × (version : ℕ) × IsContentsRow words name version
