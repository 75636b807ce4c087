-- What words mean, as people write them. (Own.)
use Rattle.std.specs.Prelude.{◌≡◌, ◌+◌, ◌<◌, ◌≤◌, ◌==◌, ℕ, Bool, true, false, ◌||◌, ◌&&◌, if◌then◌else◌, List, [], ◌∷◌, ◌++◌, length, codes, decimal, string_bytes, Option, None, Some}
use Rattle.std.specs.List.{list_any}
use Rattle.std.specs.Str.{bytes_eq}
use Rattle.wopi_text.specs.FileName.{IsFileName}
use Rattle.wopi_text.specs.Ids.{id_of}
use Rattle.wopi_text.specs.Moments.{moments_end}
use Rattle.command_words.specs.declared.options.Kind.{Kind}
use Rattle.command_words.specs.declared.options.Kind.TheVariants as kind
use Rattle.command_words.specs.declared.around.Around.{Around}
use Rattle.command_words.specs.Options.{is_run_option}
use Rattle.command_words.specs.Parts.{Parts, halved, lacks_value, parted_of}
use Rattle.command_words.specs.Spans.{IsSpan}
use Rattle.command_words.specs.Values.{number_of, text_of, values_of}

-- what the adapters take, of these options
pub record IsAround (options : List (List ℕ)) (verbose : Bool) (around : Around) : Type 0 where
  pub listen : text_of (codes "127.0.0.1") (values_of (codes "--listen") options) ≡ Some (string_bytes around.listen)
  pub idle : number_of 60 (values_of (codes "--idle") options) ≡ Some around.idle
  pub patience : number_of 120 (values_of (codes "--patience") options) ≡ Some around.patience
  pub grace : number_of 30 (values_of (codes "--grace") options) ≡ Some around.grace
  pub verbose_is : around.verbose ≡ verbose

-- what they take where no option stands
abbrev pub IsDefault : Around → Type 0
IsDefault around = IsAround [] false around

-- the options of `serve` that the program reads itself, each with its value, in their order
abbrev pub run_options_of : List (List ℕ) → List (List ℕ)
run_options_of [] = []
run_options_of (option ∷ []) = []
run_options_of (option ∷ value ∷ options) = if is_run_option option then option ∷ value ∷ run_options_of options else run_options_of options

-- an option that stands alone is there
abbrev pub has_flag : List ℕ → List (List ℕ) → Bool
has_flag wanted flags = list_any (λ flag. bytes_eq flag wanted) flags

-- `--editor`, which the program reads itself, once where it stands
abbrev pub editor_words : List (List ℕ) → List (List ℕ)
editor_words flags = if has_flag (codes "--editor") flags then codes "--editor" ∷ [] else []

-- the option of that name and its value, as often as it stands among the options
abbrev pub option_words : List ℕ → List (List ℕ) → List (List ℕ)
option_words name [] = []
option_words name (option ∷ []) = []
option_words name (option ∷ value ∷ options) = if bytes_eq option name then option ∷ value ∷ option_words name options else option_words name options

-- `--origin` and then `--keep`, which the program reads itself in front of its other options
abbrev pub front_words : List (List ℕ) → List (List ℕ)
front_words options = option_words (codes "--origin") options ++ option_words (codes "--keep") options

-- `serve`: the words that have a place, and then the options that the program reads itself
pub record MeansServe (parts : Parts) (words : List (List ℕ)) (around : Around) : Type 0 where
  pub words_are : words ≡ codes "serve" ∷ (parts.places ++ (editor_words parts.flags ++ (front_words parts.options ++ run_options_of parts.options)))
  pub around_is : IsAround parts.options (has_flag (codes "--verbose") parts.flags) around

-- the id of a file that `--file` names stands behind AUTHORITY
abbrev pub IsWithFile : List (List ℕ) → List (List ℕ) → List (List ℕ) → Type 0
IsWithFile places [] words = words ≡ places
IsWithFile [] (file ∷ files) words = ⊥
IsWithFile (authority ∷ places) (file ∷ []) words = IsFileName file × (words ≡ authority ∷ id_of file ∷ places)
IsWithFile (authority ∷ places) (file ∷ other ∷ files) words = ⊥

-- the nonce stands last: that of `--nonce`, or where it is the one word that is missing, one that was made
abbrev pub IsWithNonce : List (List ℕ) → List (List ℕ) → List ℕ → List (List ℕ) → Type 0
IsWithNonce places [] own words = words ≡ (if length places == 3 then places ++ (own ∷ []) else places)
IsWithNonce places (nonce ∷ []) own words = words ≡ places ++ (nonce ∷ [])
IsWithNonce places (nonce ∷ other ∷ nonces) own words = ⊥

-- `edit`: its words behind its name
pub record MeansPlaces (own : List ℕ) (parts : Parts) (words : List (List ℕ)) : Type 0 where
  pub named : List (List ℕ)
  pub named_are : IsWithFile parts.places (values_of (codes "--file") parts.options) named
  pub words_are : IsWithNonce named (values_of (codes "--nonce") parts.options) own words

-- and what its adapters take
pub record MeansEdit (own : List ℕ) (parts : Parts) (words : List (List ℕ)) (around : Around) : Type 0 where
  pub places : List (List ℕ)
  pub places_are : MeansPlaces own parts places
  pub words_are : words ≡ codes "edit" ∷ places
  pub around_is : IsAround parts.options false around

abbrev pub rights_of : List (List ℕ) → List ℕ
rights_of flags = if list_any (λ flag. bytes_eq flag (codes "--write")) flags then codes "w" else codes "r"

-- both flags of a token stand there
abbrev pub has_both : List (List ℕ) → Bool
has_both flags = list_any (λ flag. bytes_eq flag (codes "--write")) flags && list_any (λ flag. bytes_eq flag (codes "--read")) flags

-- no option stands there
abbrev pub is_bare : Parts → Bool
is_bare parts = length parts.options == 0 && length parts.flags == 0

-- the moment in decimal, and that of the end
abbrev pub serial_and_life : ℕ → ℕ → List (List ℕ)
serial_and_life now span = decimal now ∷ decimal now ∷ decimal (now + span) ∷ []

-- `token KEY` and its options: a token that is issued now, for so long, and whose end is a moment. The moment is its serial
-- number too.
pub record MeansToken (now : ℕ) (parts : Parts) (words : List (List ℕ)) : Type 0 where
  pub key : List ℕ
  pub user : List ℕ
  pub file : List ℕ
  pub time : List ℕ
  pub span : ℕ
  pub places_are : parts.places ≡ key ∷ []
  pub user_is : values_of (codes "--user") parts.options ≡ user ∷ []
  pub file_is : values_of (codes "--file") parts.options ≡ file ∷ []
  pub time_is : values_of (codes "--for") parts.options ≡ time ∷ []
  pub span_is : IsSpan time span
  pub low : now + span < moments_end
  pub one : has_both parts.flags ≡ false
  pub words_are : words ≡ codes "token" ∷ key ∷ user ∷ file ∷ rights_of parts.flags ∷ serial_and_life now span

-- `ctoken KEY` and its options
pub record MeansCtoken (now : ℕ) (parts : Parts) (words : List (List ℕ)) : Type 0 where
  pub key : List ℕ
  pub user : List ℕ
  pub time : List ℕ
  pub span : ℕ
  pub places_are : parts.places ≡ key ∷ []
  pub user_is : values_of (codes "--user") parts.options ≡ user ∷ []
  pub time_is : values_of (codes "--for") parts.options ≡ time ∷ []
  pub span_is : IsSpan time span
  pub low : now + span < moments_end
  pub one : has_both parts.flags ≡ false
  pub words_are : words ≡ codes "ctoken" ∷ key ∷ user ∷ rights_of parts.flags ∷ serial_and_life now span

-- the words mean these, of a command that has options
abbrev pub MeansOf : ℕ → List ℕ → Kind → Parts → List (List ℕ) → Around → Type 0
MeansOf now own kind.Serve parts words around = MeansServe parts words around
MeansOf now own kind.Edit parts words around = MeansEdit own parts words around
MeansOf now own kind.Token parts words around =
    (is_bare parts ≡ true → words ≡ codes "token" ∷ parts.places) × (is_bare parts ≡ false → MeansToken now parts words) × IsDefault around
MeansOf now own kind.Ctoken parts words around =
    (is_bare parts ≡ true → words ≡ codes "ctoken" ∷ parts.places) × (is_bare parts ≡ false → MeansCtoken now parts words) × IsDefault around

-- the command of that name, where it has options
unfoldable pub kind_of : List ℕ → Option Kind
kind_of name =
    if bytes_eq name (codes "serve") then Some kind.Serve
    else if bytes_eq name (codes "edit") then Some kind.Edit
    else if bytes_eq name (codes "token") then Some kind.Token
    else if bytes_eq name (codes "ctoken") then Some kind.Ctoken
    else None

abbrev pub MeansBehind : ℕ → List ℕ → Option Kind → List ℕ → List (List ℕ) → List (List ℕ) → Around → Type 0
MeansBehind now own None name rest words around = (words ≡ name ∷ rest) × IsDefault around
MeansBehind now own (Some k) name rest words around =
    (lacks_value k (halved k rest) ≡ false) × MeansOf now own k (parted_of k (halved k rest)) words around

abbrev pub MeansWhole : ℕ → List ℕ → List (List ℕ) → List (List ℕ) → Around → Type 0
MeansWhole now own [] words around = (words ≡ []) × IsDefault around
MeansWhole now own (name ∷ rest) words around = MeansBehind now own (kind_of name) name rest words around

-- `--help` and `--version`, where other words stand for them: `-h`, `help`, a command and `--help` or `-h`, and `-V`
unfoldable pub short_for : List (List ℕ) → Option (List ℕ)
short_for [] = None
short_for (word ∷ []) =
    if bytes_eq word (codes "-h") || bytes_eq word (codes "help") then Some (codes "--help")
    else if bytes_eq word (codes "-V") then Some (codes "--version")
    else None
short_for (command ∷ word ∷ []) = if bytes_eq word (codes "--help") || bytes_eq word (codes "-h") then Some (codes "--help") else None
short_for (command ∷ word ∷ other ∷ words) = None

abbrev pub MeansShort : ℕ → List ℕ → Option (List ℕ) → List (List ℕ) → List (List ℕ) → Around → Type 0
MeansShort now own None given words around = MeansWhole now own given words around
MeansShort now own (Some word) given words around = (words ≡ word ∷ []) × IsDefault around

-- What words mean at that moment, with that nonce at hand: the words that the program reads, and what its adapters take. They
-- are at most a hundred.
abbrev pub Means : ℕ → List ℕ → List (List ℕ) → List (List ℕ) → Around → Type 0
Means now own given words around = (length given ≤ 100) × MeansShort now own (short_for given) given words around
