-- The values of options. (Own.)
use Rattle.std.specs.Prelude.{◌≡◌, ◌<◌, ⊤, ℕ, nat_lt, if◌then◌else◌, List, [], ◌∷◌, length, Option, None, Some}
use Rattle.std.specs.Str.{bytes_eq}
use Rattle.wopi_text.specs.Decimals.{decimal_of}
use Rattle.command_words.specs.declared.values.Values.{Values}
use Rattle.command_words.specs.declared.values.Values.TheVariants.{Missing, One, Many}

-- those of the option of that name, among options that are each followed by its value
abbrev pub values_of : List ℕ → List (List ℕ) → List (List ℕ)
values_of name [] = []
values_of name (option ∷ []) = []
values_of name (option ∷ value ∷ options) = if bytes_eq option name then value ∷ values_of name options else values_of name options

abbrev pub AreValues : List (List ℕ) → Values → Type 0
AreValues words Missing = words ≡ []
AreValues words (One word) = words ≡ word.now ∷ []
AreValues words Many = 1 < length words

abbrev pub few : Option ℕ → Option ℕ
few None = None
few (Some number) = if nat_lt 1000000 number then None else Some number

-- the number of seconds that an option with these values tells: 0 to 1,000,000, or that which stands for it
abbrev pub number_of : ℕ → List (List ℕ) → Option ℕ
number_of default [] = Some default
number_of default (word ∷ []) = few (decimal_of word)
number_of default (word ∷ other ∷ words) = None

-- its text, or that which stands for it
abbrev pub text_of : List ℕ → List (List ℕ) → Option (List ℕ)
text_of default [] = Some default
text_of default (word ∷ []) = Some word
text_of default (word ∷ other ∷ words) = None

-- no value stands there, or several
abbrev pub IsNotOne : List (List ℕ) → Type 0
IsNotOne [] = ⊤
IsNotOne (word ∷ []) = ⊥
IsNotOne (word ∷ other ∷ words) = ⊤
