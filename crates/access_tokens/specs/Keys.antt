-- Keys that have numbers, and how they are written. (Own.)
use Rattle.std.specs.Prelude.{ℕ, ◌≡◌, ◌≤◌, List, ◌∷◌, ◌++◌, Option, None, Some, decimal, ◌==◌, if◌then◌else◌}
use Rattle.access_tokens.specs.Key.{IsHexOf}
use Rattle.access_tokens.specs.declared.keys.KeyEntry.{KeyEntry}
use Rattle.access_tokens.specs.declared.keys.Keys.{Keys}

-- a key can have that number
abbrev pub IsKeyNumber : ℕ → Type 0
IsKeyNumber number = number ≤ 255

abbrev pub former_key : Option KeyEntry → ℕ → Option (List ℕ)
former_key None number = None
former_key (Some entry) number = if entry.number == number then Some entry.key else None

-- the key of that number, where one is in force: the current one or the former one
abbrev pub key_of : Keys → ℕ → Option (List ℕ)
key_of keys number = if keys.current.number == number then Some keys.current.key else former_key keys.former number

-- what stands between a key's number and its digits
abbrev pub colon : ℕ
colon = 58

-- what stands between two keys
abbrev pub comma : ℕ
comma = 44

-- the text is the key's number in decimal, a colon and the key in hex
pub record IsEntryOf (entry : KeyEntry) (text : List ℕ) : Type 0 where
  pub digits : List ℕ
  pub number_is : IsKeyNumber entry.number
  pub text_is : text ≡ decimal entry.number ++ colon ∷ digits
  pub key_is : IsHexOf entry.key digits

-- The word writes these keys: one in hex alone, whose number is 0; or one with its number; or two, the current one
-- first.
pub data IsWordOf (keys : Keys) (word : List ℕ) : Type 0 where
  bare : IsHexOf keys.current.key word → keys.current.number ≡ 0 → keys.former ≡ None → IsWordOf keys word
  one : IsEntryOf keys.current word → keys.former ≡ None → IsWordOf keys word
  two : (former : KeyEntry) (first second : List ℕ) → IsEntryOf keys.current first → IsEntryOf former second
      → keys.former ≡ Some former → word ≡ first ++ comma ∷ second → IsWordOf keys word
