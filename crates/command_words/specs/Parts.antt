-- The words of a command behind its name, parted into those that have a place and those that are options. (Own.)
use Rattle.std.specs.Prelude.{◌≡◌, ℕ, Bool, true, false, nat_lt, ◌&&◌, ◌==◌, if◌then◌else◌, ⊤, List, [], ◌∷◌, ◌++◌, map, length, string_bytes}
use Rattle.std.specs.List.{position_or_len, before_first, after_first}
use Rattle.command_words.specs.declared.options.Kind.{Kind}
use Rattle.command_words.specs.declared.parting.Parted.{Parted}
use Rattle.command_words.specs.declared.wrong.Refused.{Refused}
use Rattle.command_words.specs.declared.wrong.Refused.TheVariants.{Words, Memory}
use Rattle.command_words.specs.Options.{is_flag, takes}

abbrev pub is_equals : ℕ → Bool
is_equals byte = byte == 61

-- `--name=value`, where that is an option of the command, is two words
abbrev pub halves : Kind → List ℕ → List (List ℕ)
halves kind word =
    if nat_lt (position_or_len is_equals word) (length word) && takes kind (before_first is_equals word)
    then before_first is_equals word ∷ after_first is_equals word ∷ [] else word ∷ []

abbrev pub halved : Kind → List (List ℕ) → List (List ℕ)
halved kind [] = []
halved kind (word ∷ words) = halves kind word ++ halved kind words

-- The words that are no options, in their order; each option and then its value, in their order; and the options that
-- stand alone.
pub record Parts : Type 0 where
  pub places : List (List ℕ)
  pub options : List (List ℕ)
  pub flags : List (List ℕ)

abbrev pub no_parts : Parts
no_parts = record { places = []; options = []; flags = [] }

abbrev pub with_place : List ℕ → Parts → Parts
with_place word parts = record { places = word ∷ parts.places; options = parts.options; flags = parts.flags }

abbrev pub with_option : List ℕ → List ℕ → Parts → Parts
with_option name value parts = record { places = parts.places; options = name ∷ value ∷ parts.options; flags = parts.flags }

abbrev pub with_flag : List ℕ → Parts → Parts
with_flag word parts = record { places = parts.places; options = parts.options; flags = word ∷ parts.flags }

abbrev pub parted_of : Kind → List (List ℕ) → Parts
parted_of kind [] = no_parts
parted_of kind (word ∷ []) =
    if is_flag kind word then with_flag word no_parts else if takes kind word then no_parts else with_place word no_parts
parted_of kind (word ∷ value ∷ words) =
    if is_flag kind word then with_flag word (parted_of kind (value ∷ words))
    else if takes kind word then with_option word value (parted_of kind words)
    else with_place word (parted_of kind (value ∷ words))

-- the last word is an option, whose value is missing
abbrev pub lacks_value : Kind → List (List ℕ) → Bool
lacks_value kind [] = false
lacks_value kind (word ∷ []) = if is_flag kind word then false else takes kind word
lacks_value kind (word ∷ value ∷ words) =
    if is_flag kind word then lacks_value kind (value ∷ words)
    else if takes kind word then lacks_value kind words
    else lacks_value kind (value ∷ words)

abbrev pub IsUnfinished : Refused → Bool → Type 0
IsUnfinished (Words wrong) lacks = lacks ≡ true
IsUnfinished Memory lacks = ⊤

abbrev pub parts_of : Parted → Parts
parts_of parted = record {
  places = map string_bytes parted.places.items;
  options = map string_bytes parted.options.items;
  flags = map string_bytes parted.flags.items;
}
