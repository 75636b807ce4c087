-- The words of `ctoken`. (Own.)
use Rattle.std.specs.Prelude.{◌≡◌, ℕ, List, [], ◌∷◌, codes, decimal}
use Rattle.access_tokens.specs.Keys.{IsWordOf}
use Rattle.access_tokens.specs.TokenText.{rights_of}
use Rattle.access_tokens.specs.declared.keys.Keys.{Keys}
use Rattle.containers.specs.TokenText.{IsWritable}
use Rattle.containers.specs.declared.token.ContainerToken.{ContainerToken}

-- USER RIGHTS SERIAL ISSUED EXPIRES: a container's token in words, its numbers in decimal
abbrev pub words_of : ContainerToken → List (List ℕ)
words_of token = token.user ∷ rights_of token.write ∷ decimal token.serial ∷ decimal token.issued ∷ decimal token.expires ∷ []

-- ctoken KEY USER RIGHTS SERIAL ISSUED EXPIRES
pub record IsCtokenRow (words : List (List ℕ)) (keys : Keys) (token : ContainerToken) : Type 0 where
  pub key_word : List ℕ
  pub words_are : words ≡ codes "ctoken" ∷ key_word ∷ words_of token
  pub keys_are : IsWordOf keys key_word
  pub token_is : IsWritable token

abbrev pub IsCtoken : List (List ℕ) → Type 0
IsCtoken words = (keys : Keys) × (token : ContainerToken) × IsCtokenRow words keys token
