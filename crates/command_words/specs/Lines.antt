-- Which word may stand where, of the words that the program reads, and which is the first that may not. (Own.)
use Rattle.std.specs.Prelude.{◌≡◌, ◌<◌, ◌==◌, ℕ, Bool, true, false, not, IsTrue, is_some, ◌||◌, ◌&&◌, if◌then◌else◌, List, [], ◌∷◌, length, take, drop, codes, Option, None, Some, slice_get}
use Rattle.std.specs.List.{list_any}
use Rattle.std.specs.Str.{bytes_eq}
use Rattle.command_words.specs.Names.{name_of}
use Rattle.command_words.specs.Rules.{Keeps}
use Rattle.command_words.specs.Secrets.{secret_place_of}
use Rattle.command_words.specs.declared.lines.Next.{Next}
use Rattle.command_words.specs.declared.lines.Next.TheVariants as next
use Rattle.command_words.specs.declared.rules.Rule.{Rule}
use Rattle.command_words.specs.declared.rules.Rule.TheVariants as rule
use Rattle.command_words.specs.declared.wrong.How.{How}
use Rattle.command_words.specs.declared.wrong.How.TheVariants.{Shown, Hidden, Missing}
use Rattle.command_words.specs.declared.wrong.Wrong.{Wrong}

-- the rules of a command's words behind its name, in their order
unfoldable pub rules_of : List ℕ → List Rule
rules_of name =
    if bytes_eq name (codes "once") then rule.Folder ∷ rule.Key ∷ rule.Base ∷ []
    else if bytes_eq name (codes "serve") then rule.Folder ∷ rule.Port ∷ rule.Key ∷ rule.Base ∷ rule.Workers ∷ []
    else if bytes_eq name (codes "edit") then rule.Authority ∷ rule.Id ∷ rule.Token ∷ rule.Nonce ∷ []
    else if bytes_eq name (codes "token") then rule.Key ∷ rule.User ∷ rule.Name ∷ rule.Rights ∷ rule.Serial ∷ rule.Issued ∷ rule.Expires ∷ []
    else if bytes_eq name (codes "ctoken") then rule.Key ∷ rule.User ∷ rule.Rights ∷ rule.Serial ∷ rule.Issued ∷ rule.Expires ∷ []
    else if bytes_eq name (codes "replay") then rule.Seed ∷ rule.Count ∷ []
    else if bytes_eq name (codes "contents") then rule.Id ∷ rule.Version ∷ []
    else []

-- the commands of one word
unfoldable pub is_single : List ℕ → Bool
is_single name =
    bytes_eq name (codes "upgrade") || (bytes_eq name (codes "audit") || (bytes_eq name (codes "--help") || bytes_eq name (codes "--version")))

abbrev pub is_command : List ℕ → Bool
is_command name = not (length (rules_of name) == 0) || is_single name

-- the rule of the value of an option of `serve`
unfoldable pub option_rule : List ℕ → Option Rule
option_rule name =
    if bytes_eq name (codes "--journal") then Some rule.Journal
    else if bytes_eq name (codes "--each") then Some rule.Each
    else if bytes_eq name (codes "--first") then Some rule.First
    else if bytes_eq name (codes "--links") then Some rule.Links
    else if bytes_eq name (codes "--ids") then Some rule.Ids
    else if bytes_eq name (codes "--sync") then Some rule.Sync
    else None

-- the words behind `--origin` and its value, where these stand at their front, or all of them
abbrev pub behind_origin : List (List ℕ) → List (List ℕ)
behind_origin [] = []
behind_origin (name ∷ []) = name ∷ []
behind_origin (name ∷ origin ∷ words) = if bytes_eq name (codes "--origin") then words else name ∷ origin ∷ words

-- the words behind `--editor` and those that go with it, where it stands at their front, or all of them
abbrev pub behind_editor : List (List ℕ) → List (List ℕ)
behind_editor [] = []
behind_editor (word ∷ words) = if bytes_eq word (codes "--editor") then behind_origin words else word ∷ words

-- the names of options, each of which is followed by its value
abbrev pub names_of : List (List ℕ) → List (List ℕ)
names_of [] = []
names_of (name ∷ []) = name ∷ []
names_of (name ∷ value ∷ words) = name ∷ names_of words

abbrev pub next_value : Option Rule → Next
next_value None = next.End
next_value (Some rule) = next.Word rule

-- behind such options
abbrev pub next_option : List (List ℕ) → Next
next_option [] = next.Option
next_option (name ∷ []) = next_value (option_rule name)
next_option (name ∷ value ∷ words) = next_option words

-- behind `--keep` of `serve`
abbrev pub next_of_keep : List (List ℕ) → Next
next_of_keep [] = next.Word rule.Logs
next_of_keep (logs ∷ words) = next_option words

-- behind the words for editors
abbrev pub next_of_options : List (List ℕ) → Next
next_of_options [] = next.KeepOrOption
next_of_options (name ∷ words) = if bytes_eq name (codes "--keep") then next_of_keep words else next_option (name ∷ words)

-- behind `--origin` of `serve`
abbrev pub next_of_origin : List (List ℕ) → Next
next_of_origin [] = next.Word rule.Origin
next_of_origin (origin ∷ words) = next_of_options words

-- behind `--editor` of `serve`
abbrev pub next_of_editor : List (List ℕ) → Next
next_of_editor [] = next.OriginOrOption
next_of_editor (name ∷ words) = if bytes_eq name (codes "--origin") then next_of_origin words else next_of_options (name ∷ words)

-- behind WORKERS of `serve`
abbrev pub next_of_serve : List (List ℕ) → Next
next_of_serve [] = next.EditorOrOption
next_of_serve (word ∷ words) = if bytes_eq word (codes "--editor") then next_of_editor words else next_of_options (word ∷ words)

-- behind BASE of `once`
abbrev pub next_of_once : List (List ℕ) → Next
next_of_once [] = next.Editor
next_of_once (word ∷ []) = next.Origin
next_of_once (word ∷ name ∷ []) = next.Word rule.Origin
next_of_once (word ∷ name ∷ origin ∷ words) = next.End

-- behind the words of a command that have rules
unfoldable pub next_behind : List ℕ → List (List ℕ) → Next
next_behind name words =
    if bytes_eq name (codes "serve") then next_of_serve words else if bytes_eq name (codes "once") then next_of_once words else next.End

abbrev pub ruled_or : Option Rule → Next → Next
ruled_or (Some rule) other = next.Word rule
ruled_or None other = other

-- behind a command's name and these: a word for each of its rules, and then its options, if it has some
abbrev pub next_in : List ℕ → List (List ℕ) → Next
next_in name words = ruled_or (slice_get (rules_of name) (length words)) (next_behind name (drop (length (rules_of name)) words))

-- what may stand behind words
abbrev pub next_of : List (List ℕ) → Next
next_of [] = next.Command
next_of (name ∷ words) = next_in name words

-- no journal is written where logs are kept; where none are, there stands no number of ids and nothing of syncs
abbrev pub goes_with : Bool → List ℕ → Bool
goes_with keeps word = if keeps then not (bytes_eq word (codes "--journal")) else not (bytes_eq word (codes "--ids")) && not (bytes_eq word (codes "--sync"))

abbrev pub is_keep_or_option : List ℕ → Bool
is_keep_or_option word = bytes_eq word (codes "--keep") || (is_some (option_rule word) && goes_with false word)

abbrev pub is_editor_or_option : List ℕ → Bool
is_editor_or_option word = bytes_eq word (codes "--editor") || is_keep_or_option word

abbrev pub is_origin_or_option : List ℕ → Bool
is_origin_or_option word = bytes_eq word (codes "--origin") || is_keep_or_option word

-- the options among the words of `serve`, behind those that have rules
abbrev pub options_of : List (List ℕ) → List (List ℕ)
options_of words = behind_editor (drop 6 words)

-- `--keep` stands at their front
abbrev pub keeps_logs : List (List ℕ) → Bool
keeps_logs [] = false
keeps_logs (word ∷ words) = bytes_eq word (codes "--keep")

-- an option of `serve` that goes with these and isn't among them
abbrev pub is_new_option : List (List ℕ) → List ℕ → Bool
is_new_option options word = is_some (option_rule word) && (goes_with (keeps_logs options) word && not (list_any (bytes_eq word) (names_of options)))

-- the word may be this next one, behind these words
abbrev pub Allows : Next → List (List ℕ) → List ℕ → Type 0
Allows next.Command words word = IsTrue (is_command word)
Allows (next.Word rule) words word = Keeps rule word
Allows next.Editor words word = IsTrue (bytes_eq word (codes "--editor"))
Allows next.EditorOrOption words word = IsTrue (is_editor_or_option word)
Allows next.Origin words word = IsTrue (bytes_eq word (codes "--origin"))
Allows next.OriginOrOption words word = IsTrue (is_origin_or_option word)
Allows next.KeepOrOption words word = IsTrue (is_keep_or_option word)
Allows next.Option words word = IsTrue (is_new_option (options_of words) word)
Allows next.End words word = ⊥

-- the word may stand behind these words
abbrev pub MayFollow : List (List ℕ) → List ℕ → Type 0
MayFollow words word = Allows (next_of words) words word

abbrev pub can_end : Next → Bool
can_end next.Command = false
can_end (next.Word rule) = false
can_end next.Editor = true
can_end next.EditorOrOption = true
can_end next.Origin = true
can_end next.OriginOrOption = true
can_end next.KeepOrOption = true
can_end next.Option = true
can_end next.End = true

-- `replay` alone, whose schedule is the input
abbrev pub is_replay : List (List ℕ) → Bool
is_replay [] = false
is_replay (word ∷ []) = bytes_eq word (codes "replay")
is_replay (word ∷ other ∷ words) = false

-- none has to stand behind them
abbrev pub may_end : List (List ℕ) → Bool
may_end words = can_end (next_of words) || is_replay words

-- the word at that place may stand behind those before it
pub record Fits (words : List (List ℕ)) (place : ℕ) : Type 0 where
  pub follows : (word : List ℕ) → slice_get words place ≡ Some word → MayFollow (take place words) word

-- so may each of so many words
pub record AllFit (words : List (List ℕ)) (count : ℕ) : Type 0 where
  pub each : (place : ℕ) → place < count → Fits words place

-- the words are a command's: each may stand behind those before it, and none has to stand behind them
pub record IsLine (words : List (List ℕ)) : Type 0 where
  pub fit : AllFit words (length words)
  pub end : IsTrue (may_end words)

-- it may not
pub record Breaks (words : List (List ℕ)) (place : ℕ) : Type 0 where
  pub word : List ℕ
  pub stands : slice_get words place ≡ Some word
  pub wrong : ¬ MayFollow (take place words) word

-- a word has to stand behind the last one
pub record IsMissing (words : List (List ℕ)) (place : ℕ) : Type 0 where
  pub behind : place ≡ length words
  pub unended : ¬ IsTrue (may_end words)

-- the word at that place is wrong, or missing, and is told so
abbrev pub IsWrongAt : List (List ℕ) → ℕ → How → Type 0
IsWrongAt words place (Shown shown) = (shown ≡ place) × Breaks words place
IsWrongAt words place Hidden = (secret_place_of words ≡ Some place) × Breaks words place
IsWrongAt words place Missing = IsMissing words place

-- The first wrong word, and what it is called: each word before it may stand behind those before it, and it may not, or
-- it is missing.
pub record IsFirstWrong (words : List (List ℕ)) (wrong : Wrong) : Type 0 where
  pub place : ℕ
  pub front : AllFit words place
  pub wrong_at : IsWrongAt words place wrong.how
  pub name : wrong.name.now ≡ name_of (next_of (take place words))
