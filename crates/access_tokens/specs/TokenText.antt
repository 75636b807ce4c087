-- How an access token is written: `v2.{key}.{user}.{id}.{rights}.{serial}.{issued}.{expires}.{mac}`, with the number of
-- its key, or as version 1, `v1.{user}.{id}.{rights}.{serial}.{issued}.{expires}.{mac}`, whose key has the number 0.
-- (Own: MS-WOPI leaves the form of access tokens to the host.)
use Rattle.std.specs.Prelude.{ℕ, ◌≡◌, ◌≢◌, ◌<◌, ◌^◌, Bool, true, List, ◌∷◌, ◌++◌, length, Option, None, Some, IfSome, codes, decimal, ◌==◌, if◌then◌else◌}
use Rattle.std.specs.List.{list_all, list_any}
use Rattle.std.specs.Option.{unwrap_or}
use Rattle.hex.specs.Hex.{encode_lower, lower_digits}
use Rattle.wopi_text.specs.FileName.{IsFileName}
use Rattle.wopi_text.specs.Ids.{id_of}
use Rattle.wopi_model.specs.Moment.{IsMoment}
use Rattle.wopi_model.specs.User.{IsUser}
use Rattle.wopi_model.specs.declared.token.Token.{Token}
use Rattle.access_tokens.specs.Hmac.{hmac}
use Rattle.access_tokens.specs.Keys.{IsKeyNumber, key_of}
use Rattle.access_tokens.specs.declared.keys.Keys.{Keys}

-- what stands between two fields
abbrev pub period : ℕ
period = 46

-- the right to read alone, or to write as well
abbrev pub rights_of : Bool → List ℕ
rights_of write = if write then codes "w" else codes "r"

-- what a text begins with: version 1, which writes no number of a key, or version 2 and the number
abbrev pub head_text : Option ℕ → List ℕ
head_text None = codes "v1"
head_text (Some number) = codes "v2" ++ period ∷ decimal number

-- the number of the key, where version 1 writes none
abbrev pub number_of : Option ℕ → ℕ
number_of written = unwrap_or written 0

-- what is signed of a token: the version with the number that it writes, and all that the token says, numbers in decimal
unfoldable pub signed_text : Option ℕ → Token → List ℕ
signed_text written token =
    head_text written ++ period ∷ token.user ++ period ∷ id_of token.file ++ period ∷ rights_of token.write
    ++ period ∷ decimal token.serial ++ period ∷ decimal token.issued ++ period ∷ decimal token.expires

-- the code of a text under a key, in lower-case hex
abbrev pub mac_of : List ℕ → List ℕ → List ℕ
mac_of key text = encode_lower (hmac key text)

-- the text of a token that is signed with a key: what is signed, and its code
abbrev pub text_under : List ℕ → Option ℕ → Token → List ℕ
text_under key written token = signed_text written token ++ period ∷ mac_of key (signed_text written token)

-- the text of a token under keys: version 2, signed with the current key
abbrev pub token_text : Keys → Token → List ℕ
token_text keys token = text_under keys.current.key (Some keys.current.number) token

-- a digit of lower-case hex
abbrev pub is_lower_digit : ℕ → Bool
is_lower_digit byte = list_any (λ digit. digit == byte) lower_digits

-- 64 digits of lower-case hex
pub record IsMac (digits : List ℕ) : Type 0 where
  pub sized : length digits ≡ 64
  pub lower : list_all is_lower_digit digits ≡ true

-- a token that can be written: its user and its file have their forms, and its moments are moments
pub record IsWritable (token : Token) : Type 0 where
  pub user : IsUser token.user
  pub file : IsFileName token.file
  pub serial : token.serial < 2 ^ 64
  pub issued : IsMoment token.issued
  pub expires : IsMoment token.expires

-- the text reads as this written number of a key, this token and these digits of a code, whether they are the right
-- ones or not
pub record ReadsAs (text : List ℕ) (written : Option ℕ) (token : Token) (mac : List ℕ) : Type 0 where
  pub number : IfSome written IsKeyNumber
  pub form : IsWritable token
  pub digits : IsMac mac
  pub fields : text ≡ signed_text written token ++ period ∷ mac

-- the text has a reading
abbrev pub HasReading : List ℕ → Type 0
HasReading text = (written : Option ℕ) × (token : Token) × (mac : List ℕ) × ReadsAs text written token mac

-- the text reads as this token, under the right code of the key whose number it has
abbrev pub IsSigned : Keys → List ℕ → Token → Type 0
IsSigned keys text token =
    (written : Option ℕ) × (key : List ℕ) × (key_of keys (number_of written) ≡ Some key)
    × ReadsAs text written token (mac_of key (signed_text written token))

-- the text reads as some token, and no key of its number is in force
abbrev pub IsUnkeyed : Keys → List ℕ → Type 0
IsUnkeyed keys text =
    (written : Option ℕ) × (token : Token) × (mac : List ℕ) × ReadsAs text written token mac × (key_of keys (number_of written) ≡ None)

-- the text reads as some token, under a code that isn't the right one of the key whose number it has
abbrev pub IsForged : Keys → List ℕ → Type 0
IsForged keys text =
    (written : Option ℕ) × (token : Token) × (mac : List ℕ) × (key : List ℕ) × ReadsAs text written token mac
    × (key_of keys (number_of written) ≡ Some key) × (mac ≢ mac_of key (signed_text written token))
