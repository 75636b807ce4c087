-- What holds of the meanings of words. (Own.)
use Rattle.std.specs.Prelude.{◌≡◌, ◌≢◌, ◌≤◌, ◌+◌, ℕ, true, ⊤, List, [], ◌∷◌, ◌++◌, length, take, None, Some, slice_index}
use Rattle.std.specs.List.{AllByRecursion}
use Rattle.command_words.specs.declared.around.Around.{Around}
use Rattle.command_words.specs.declared.options.Kind.TheVariants as kind
use Rattle.command_words.specs.Lines.{AllFit, Breaks, IsLine}
use Rattle.command_words.specs.Meaning.{IsDefault, Means, kind_of, short_for}
use Rattle.command_words.specs.Options.{is_run_option}

-- no hyphen stands at its front
abbrev pub IsPlain : List ℕ → Type 0
IsPlain word = slice_index word 0 ≢ 45

-- options of `serve` that the program reads itself, each with a value
abbrev pub AreRunOptions : List (List ℕ) → Type 0
AreRunOptions [] = ⊤
AreRunOptions (name ∷ []) = ⊥
AreRunOptions (name ∷ value ∷ options) = (is_run_option name ≡ true) × IsPlain value × AreRunOptions options

-- Words in which nothing new stands: they aren't short for others, and no word behind the first begins with a hyphen, but for the
-- options of `serve` at their end; and of `edit` no word is missing.
pub record IsAsBefore (words : List (List ℕ)) : Type 0 where
  pub name : List ℕ
  pub places : List (List ℕ)
  pub options : List (List ℕ)
  pub words_are : words ≡ name ∷ (places ++ options)
  pub short : short_for words ≡ None
  pub plain : AllByRecursion IsPlain places
  pub options_are : AreRunOptions options
  pub others : kind_of name ≢ Some kind.Serve → options ≡ []
  pub edits : kind_of name ≡ Some kind.Edit → length places ≢ 3

-- At most a hundred such words have a meaning, so they aren't refused. So have words that are short for others.
abbrev pub NothingOfBeforeIsRefused : Type 0
NothingOfBeforeIsRefused =
    (moment : ℕ) (own : List ℕ) (words : List (List ℕ)) (around : Around) → IsDefault around → length words ≤ 100
    → (IsAsBefore words → Means moment own words words around) × ((word : List ℕ) → short_for words ≡ Some word → Means moment own words (word ∷ []) around)

-- such words mean themselves, and the adapters take what stands where no option does
abbrev pub NothingOfBeforeChanges : Type 0
NothingOfBeforeChanges =
    (moment : ℕ) (own : List ℕ) (words meant : List (List ℕ)) (around : Around) → IsAsBefore words → Means moment own words meant around
    → (meant ≡ words) × IsDefault around

-- Behind a word that may not stand there no words make a command of them.
abbrev pub NothingMends : Type 0
NothingMends = (words more : List (List ℕ)) (place : ℕ) → Breaks words place → IsLine (take (place + 1) words ++ more) → ⊥

-- Behind words of which each may stand there some words do. So the first wrong word is the last of the shortest front that can't
-- go on to a command.
abbrev pub GoodFrontsGoOn : Type 0
GoodFrontsGoOn = (words : List (List ℕ)) (count : ℕ) → AllFit words count → (more : List (List ℕ)) × IsLine (take count words ++ more)
