-- Words in which nothing new stands, parted.
use Rattle.std.proofs.Common.{◌≡◌, ℕ, Bool, true, false, ◌||◌, if◌then◌else◌, List, [], ◌∷◌, ◌++◌, codes, refl, ap, ◌∙◌}
use Rattle.std.specs.List.{AllByRecursion}
use Rattle.std.specs.Str.{bytes_eq}
use Rattle.command_words.specs.declared.options.Kind.{Kind}
use Rattle.command_words.specs.declared.options.Kind.TheVariants as kind
use Rattle.command_words.specs.Options.{is_around_option, is_flag, is_run_option, takes}
use Rattle.command_words.specs.Parts.{Parts, halved, halves, parted_of, with_flag, with_option, with_place}
use Rattle.command_words.specs.Meaning.{front_words, option_words, run_options_of}
use Rattle.command_words.specs.Values.{values_of}
use Rattle.command_words.specs.Laws.{AreRunOptions, IsPlain}
use Rattle.command_words.proofs.OptionLemmas.{of_run_name, plain_no_flag, plain_untaken, plain_whole}

pub third : {A : Type 0} (a b : Bool) (x y z : A) → a ≡ false → b ≡ false → (if a then x else if b then y else z) ≡ z
third a b x y z untrue none = ap (λ c. if c then x else if b then y else z) untrue ∙ ap (λ c. if c then y else z) none

pub second : {A : Type 0} (a b : Bool) (x y z : A) → a ≡ false → b ≡ true → (if a then x else if b then y else z) ≡ y
second a b x y z untrue holds = ap (λ c. if c then x else if b then y else z) untrue ∙ ap (λ c. if c then y else z) holds

pub first : {A : Type 0} (a b : Bool) (x y z : A) → a ≡ true → (if a then x else if b then y else z) ≡ x
first a b x y z holds = ap (λ c. if c then x else if b then y else z) holds

pub parted_place : (k : Kind) (word : List ℕ) (words : List (List ℕ)) → is_flag k word ≡ false → takes k word ≡ false
    → parted_of k (word ∷ words) ≡ with_place word (parted_of k words)
parted_place k word [] untrue none = third (is_flag k word) (takes k word) _ _ _ untrue none
parted_place k word (value ∷ words) untrue none = third (is_flag k word) (takes k word) _ _ _ untrue none

pub parted_flag : (k : Kind) (word : List ℕ) (words : List (List ℕ)) → is_flag k word ≡ true → parted_of k (word ∷ words) ≡ with_flag word (parted_of k words)
parted_flag k word [] holds = first (is_flag k word) (takes k word) _ _ _ holds
parted_flag k word (value ∷ words) holds = first (is_flag k word) (takes k word) _ _ _ holds

pub parted_option : (k : Kind) (word value : List ℕ) (words : List (List ℕ)) → is_flag k word ≡ false → takes k word ≡ true
    → parted_of k (word ∷ value ∷ words) ≡ with_option word value (parted_of k words)
parted_option k word value words untrue holds = second (is_flag k word) (takes k word) _ _ _ untrue holds

-- words with no hyphen at their fronts stay whole
pub plain_halved : (k : Kind) (places options : List (List ℕ)) → AllByRecursion IsPlain places → halved k (places ++ options) ≡ places ++ halved k options
plain_halved k [] options plain = refl
plain_halved k (word ∷ places) options plain =
    ap (λ (l : List (List ℕ)). l ++ halved k (places ++ options)) (plain_whole k word plain.0) ∙ ap (λ (l : List (List ℕ)). word ∷ l) (plain_halved k places options plain.1)

run_whole : (name : List ℕ) → is_run_option name ≡ true → halves kind.Serve name ≡ name ∷ []
run_whole name is = of_run_name (λ word. halves kind.Serve word ≡ word ∷ []) refl refl refl refl refl refl name is

pub options_halved : (options : List (List ℕ)) → AreRunOptions options → halved kind.Serve options ≡ options
options_halved [] are = refl
options_halved (name ∷ []) are = absurd are
options_halved (name ∷ value ∷ options) are =
    ap (λ (l : List (List ℕ)). l ++ halved kind.Serve (value ∷ options)) (run_whole name are.0)
    ∙ ap (λ (l : List (List ℕ)). name ∷ l) (ap (λ (l : List (List ℕ)). l ++ halved kind.Serve options) (plain_whole kind.Serve value are.1)
    ∙ ap (λ (l : List (List ℕ)). value ∷ l) (options_halved options are.2))

-- those words have places, before what is parted of the others
abbrev behind : List (List ℕ) → Parts → Parts
behind places parts = record { places = places ++ parts.places; options = parts.options; flags = parts.flags }

pub plain_parted : (k : Kind) (places options : List (List ℕ)) → AllByRecursion IsPlain places → parted_of k (places ++ options) ≡ behind places (parted_of k options)
plain_parted k [] options plain = refl
plain_parted k (word ∷ places) options plain =
    parted_place k word (places ++ options) (plain_no_flag k word plain.0) (plain_untaken k word plain.0) ∙ ap (λ (p : Parts). with_place word p) (plain_parted k places options plain.1)

pub run_no_flag : (name : List ℕ) → is_run_option name ≡ true → is_flag kind.Serve name ≡ false
unfolding is_flag
run_no_flag name is = of_run_name (λ word. (bytes_eq word (codes "--verbose") || bytes_eq word (codes "--editor")) ≡ false) refl refl refl refl refl refl name is

pub run_taken : (name : List ℕ) → is_run_option name ≡ true → takes kind.Serve name ≡ true
unfolding takes
run_taken name is = ap (λ b. b || is_around_option name || bytes_eq name (codes "--origin") || bytes_eq name (codes "--keep")) is

pub options_parted : (options : List (List ℕ)) → AreRunOptions options → parted_of kind.Serve options ≡ record { places = []; options = options; flags = [] }
options_parted [] are = refl
options_parted (name ∷ []) are = absurd are
options_parted (name ∷ value ∷ options) are =
    parted_option kind.Serve name value options (run_no_flag name are.0) (run_taken name are.0) ∙ ap (λ (p : Parts). with_option name value p) (options_parted options are.2)

pub run_options_stay : (options : List (List ℕ)) → AreRunOptions options → run_options_of options ≡ options
run_options_stay [] are = refl
run_options_stay (name ∷ []) are = absurd are
run_options_stay (name ∷ value ∷ options) are =
    ap (λ b. if b then name ∷ value ∷ run_options_of options else run_options_of options) are.0 ∙ ap (λ (l : List (List ℕ)). name ∷ value ∷ l) (run_options_stay options are.2)

-- an option of another name isn't among them
pub no_option : (other : List ℕ) → bytes_eq (codes "--journal") other ≡ false → bytes_eq (codes "--each") other ≡ false → bytes_eq (codes "--first") other ≡ false
    → bytes_eq (codes "--links") other ≡ false → bytes_eq (codes "--ids") other ≡ false → bytes_eq (codes "--sync") other ≡ false → (options : List (List ℕ)) → AreRunOptions options → option_words other options ≡ []
no_option other a b c d e f [] are = refl
no_option other a b c d e f (name ∷ []) are = absurd are
no_option other a b c d e f (name ∷ value ∷ options) are =
    let apart : bytes_eq name other ≡ false = of_run_name (λ word. bytes_eq word other ≡ false) a b c d e f name are.0 in
    ap (λ t. if t then name ∷ value ∷ option_words other options else option_words other options) apart ∙ no_option other a b c d e f options are.2

-- none that stands in front is
pub no_front : (options : List (List ℕ)) → AreRunOptions options → front_words options ≡ []
no_front options are =
    ap (λ (l : List (List ℕ)). l ++ option_words (codes "--keep") options) (no_option (codes "--origin") refl refl refl refl refl refl options are)
    ∙ no_option (codes "--keep") refl refl refl refl refl refl options are

-- an option of another name has no value among them
pub no_values : (other : List ℕ) → bytes_eq (codes "--journal") other ≡ false → bytes_eq (codes "--each") other ≡ false → bytes_eq (codes "--first") other ≡ false
    → bytes_eq (codes "--links") other ≡ false → bytes_eq (codes "--ids") other ≡ false → bytes_eq (codes "--sync") other ≡ false → (options : List (List ℕ)) → AreRunOptions options → values_of other options ≡ []
no_values other a b c d e f [] are = refl
no_values other a b c d e f (name ∷ []) are = absurd are
no_values other a b c d e f (name ∷ value ∷ options) are =
    let apart : bytes_eq name other ≡ false = of_run_name (λ word. bytes_eq word other ≡ false) a b c d e f name are.0 in
    ap (λ t. if t then value ∷ values_of other options else values_of other options) apart ∙ no_values other a b c d e f options are.2
