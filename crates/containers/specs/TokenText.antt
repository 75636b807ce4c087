-- How a container's token is written: `c1.{key}.{user}.{rights}.{serial}.{issued}.{expires}.{mac}`, in the fields and with the code
-- of a file's token. (Own: MS-WOPI leaves the form of access tokens to the host.)
use Rattle.std.specs.Prelude.{ℕ, ◌≡◌, ◌≢◌, ◌<◌, ◌^◌, List, ◌∷◌, ◌++◌, None, Some, codes, decimal}
use Rattle.wopi_model.specs.Moment.{IsMoment}
use Rattle.wopi_model.specs.User.{IsUser}
use Rattle.access_tokens.specs.Keys.{IsKeyNumber, key_of}
use Rattle.access_tokens.specs.TokenText.{IsMac, mac_of, period, rights_of}
use Rattle.access_tokens.specs.declared.keys.Keys.{Keys}
use Rattle.containers.specs.declared.token.ContainerToken.{ContainerToken}

-- what is signed of a token, with the number of the key
unfoldable pub signed_text : ℕ → ContainerToken → List ℕ
signed_text number token =
    codes "c1" ++ period ∷ decimal number ++ period ∷ token.user ++ period ∷ rights_of token.write
    ++ period ∷ decimal token.serial ++ period ∷ decimal token.issued ++ period ∷ decimal token.expires

-- the text of a token that is signed with a key: what is signed, and its code
abbrev pub text_under : List ℕ → ℕ → ContainerToken → List ℕ
text_under key number token = signed_text number token ++ period ∷ mac_of key (signed_text number token)

-- the text of a token under keys, signed with the current key
abbrev pub container_text : Keys → ContainerToken → List ℕ
container_text keys token = text_under keys.current.key keys.current.number token

-- a token that can be written: its user has its form, and its moments are moments
pub record IsWritable (token : ContainerToken) : Type 0 where
  pub user : IsUser token.user
  pub serial : token.serial < 2 ^ 64
  pub issued : IsMoment token.issued
  pub expires : IsMoment token.expires

-- the text reads as this number of a key, this token and these digits of a code, whether they are the right ones or not
pub record ReadsAs (text : List ℕ) (number : ℕ) (token : ContainerToken) (mac : List ℕ) : Type 0 where
  pub range : IsKeyNumber number
  pub form : IsWritable token
  pub digits : IsMac mac
  pub fields : text ≡ signed_text number token ++ period ∷ mac

-- the text has a reading
abbrev pub HasReading : List ℕ → Type 0
HasReading text = (number : ℕ) × (token : ContainerToken) × (mac : List ℕ) × ReadsAs text number token mac

-- the text reads as this token, under the right code of the key whose number it has
abbrev pub IsSigned : Keys → List ℕ → ContainerToken → Type 0
IsSigned keys text token =
    (number : ℕ) × (key : List ℕ) × (key_of keys number ≡ Some key) × ReadsAs text number token (mac_of key (signed_text number token))

-- the text reads as some token, and no key of its number is in force
abbrev pub IsUnkeyed : Keys → List ℕ → Type 0
IsUnkeyed keys text = (number : ℕ) × (token : ContainerToken) × (mac : List ℕ) × ReadsAs text number token mac × (key_of keys number ≡ None)

-- the text reads as some token, under a code that isn't the right one of the key whose number it has
abbrev pub IsForged : Keys → List ℕ → Type 0
IsForged keys text =
    (number : ℕ) × (token : ContainerToken) × (mac : List ℕ) × (key : List ℕ) × ReadsAs text number token mac
    × (key_of keys number ≡ Some key) × (mac ≢ mac_of key (signed_text number token))
