-- What is told of words that are wrong. (Own.)
use Rattle.std.specs.Prelude.{◌≢◌, ◌<◌, ⊤, ℕ, Bool, nat_lt, nat_le, ◌&&◌, if◌then◌else◌, List, [], ◌++◌, length, codes, Option, None, Some, slice_get}
use Rattle.std.specs.List.{list_all}
use Rattle.command_words.specs.declared.wrong.How.{How}
use Rattle.command_words.specs.declared.wrong.How.TheVariants.{Shown, Hidden, Missing}
use Rattle.command_words.specs.Secrets.{secret_place_of}

-- A secret is never shown: no word is that stands where the command's secret does.
abbrev pub HidesSecretOf : List (List ℕ) → How → Type 0
HidesSecretOf words (Shown place) = secret_place_of words ≢ Some place
HidesSecretOf words Hidden = ⊤
HidesSecretOf words Missing = ⊤

-- a word that is shown is one of so many
abbrev pub Stands : ℕ → How → Type 0
Stands count (Shown place) = place < count
Stands count Hidden = ⊤
Stands count Missing = ⊤

abbrev pub is_visible : ℕ → Bool
is_visible byte = nat_le 33 byte && nat_le byte 126

-- 1 to 60 visible characters of ASCII
abbrev pub is_plain : List ℕ → Bool
is_plain word = nat_lt 0 (length word) && (nat_le (length word) 60 && list_all is_visible word)

-- a word that is shown, behind a space; one that is long or not visible isn't
abbrev pub word_shown : Option (List ℕ) → List ℕ
word_shown None = []
word_shown (Some word) = if is_plain word then codes " " ++ word else []

-- what stands between the word's name and the colon
abbrev pub text_shown : List (List ℕ) → How → List ℕ
text_shown words (Shown place) = word_shown (slice_get words place)
text_shown words Hidden = []
text_shown words Missing = codes " is missing"
