-- The words of the command `edit`. (Own.)
use Rattle.std.specs.Prelude.{◌≡◌, ◌<◌, ◌≤◌, ◌+◌, ℕ, true, List, [], ◌∷◌, ◌++◌, length, codes, decimal, drop, get_or}
use Rattle.std.specs.List.{list_all}
use Rattle.wopi_text.specs.FileName.{IsFileName}
use Rattle.wopi_text.specs.Ids.{id_of}
use Rattle.access_tokens.specs.Addresses.{is_visible}
use Rattle.save_session.specs.Nonce.{IsNonce}

-- a port: the decimal of 1 to 65,535
pub record IsPort (digits : List ℕ) : Type 0 where
  pub port : ℕ
  pub digits_are : digits ≡ decimal port
  pub low : 0 < port
  pub high : port < 65536

-- a name that isn't empty, a colon and a port
pub record HasPort (authority : List ℕ) : Type 0 where
  pub name : List ℕ
  pub digits : List ℕ
  pub authority_is : authority ≡ name ++ (58 ∷ digits)
  pub name_is : 0 < length name
  pub port_is : IsPort digits

-- NAME:PORT, of at most 200 visible characters
pub record IsAuthority (authority : List ℕ) : Type 0 where
  pub port : HasPort authority
  pub short : length authority ≤ 200
  pub visible : list_all is_visible authority ≡ true

-- the colon before the port stands at this place
abbrev pub SplitsAt : List ℕ → ℕ → Type 0
SplitsAt authority at = (get_or authority at 0 ≡ 58) × IsPort (drop (at + 1) authority)

-- a token as it is given: 1 to 2,000 visible characters
pub record IsTokenWord (token : List ℕ) : Type 0 where
  pub some : 0 < length token
  pub short : length token ≤ 2000
  pub visible : list_all is_visible token ≡ true

-- edit AUTHORITY ID TOKEN NONCE
pub record IsEditRow (words : List (List ℕ)) (authority file token nonce : List ℕ) : Type 0 where
  pub words_are : words ≡ codes "edit" ∷ authority ∷ id_of file ∷ token ∷ nonce ∷ []
  pub authority_is : IsAuthority authority
  pub file_is : IsFileName file
  pub token_is : IsTokenWord token
  pub nonce_is : IsNonce nonce

-- the words are those of some `edit`
abbrev pub IsEdit : List (List ℕ) → Type 0
IsEdit words = (authority : List ℕ) × (file : List ℕ) × (token : List ℕ) × (nonce : List ℕ) × IsEditRow words authority file token nonce
