-- Words each of which may stand where it does are the front of a command's words.
use Rattle.std.proofs.Common.{◌≡◌, ◌<◌, ◌≤◌, ◌+◌, ◌-◌, ◌⊎◌, inl, inr, ℕ, zero, suc, Bool, true, false, ◌||◌, if◌then◌else◌, List, [], ◌∷◌, ◌++◌, Option, None, Some, unwrap_or, take, drop, length, codes, decimal, slice_get, refl, sym, ap, ◌∙◌, subst, arith, lit<, lit≤, append-nil}
use Rattle.std.specs.List.{list_all}
use Rattle.std.specs.Str.{IsAscii, bytes_eq}
use Rattle.std.proofs.lemmas.Bool.{cases_lt}
use Rattle.std.proofs.lemmas.List.{append_assoc, drop-append-le, drop_all, length-append, take-append-le, take_all}
use Rattle.std.proofs.lemmas.Option.{slice_get_past}
use Rattle.std.proofs.lemmas.Str.{IsUtf8-from_ascii, chars-IsAscii}
use Rattle.hex.specs.Hex.{IsBytes, encode_lower}
use Rattle.hex.proofs.HexLemmas.{decode_of-encode_lower}
use Rattle.wopi_text.specs.FileName.{IsFileName, is_name_char}
use Rattle.wopi_text.specs.Ids.{id_of}
use Rattle.access_tokens.specs.Keys.{bare}
use Rattle.access_tokens.specs.TokenText.{rights_of}
use Rattle.command_words.specs.Laws.{GoodFrontsGoOn}
use Rattle.command_words.specs.Lines.{AllFit, Allows, Fits, IsLine, MayFollow, can_end, is_replay, is_single, next_behind, next_of, next_of_editor, next_of_keep, next_of_options, next_of_once, next_of_origin, next_of_serve, next_option, next_value, option_rule, ruled_or, rules_of}
use Rattle.command_words.specs.Rules.{Keeps}
use Rattle.command_words.specs.declared.lines.Next.{Next}
use Rattle.command_words.specs.declared.lines.Next.TheVariants as next
use Rattle.command_words.specs.declared.rules.Rule.{Rule}
use Rattle.command_words.specs.declared.rules.Rule.TheVariants as rule
use Rattle.command_words.proofs.LineLemmas.{none_yet, one_more}

-- ---- a word for each rule

abbrev letter : List ℕ
letter = 97 ∷ []

letter_ascii : IsAscii letter
letter_ascii zero = lit< tt
letter_ascii (suc i) = lit< tt

letter_names : IsFileName letter
letter_names = record {
  not_empty = lit< tt;
  short = lit≤ tt;
  utf8 = IsUtf8-from_ascii letter letter_ascii;
  allowed = ap (list_all is_name_char) (chars-IsAscii letter letter_ascii);
  no_leading_period = λ e. (let same : ◌≡◌ {A = ℕ} 97 46 = e in omega (arith, same));
  no_closing_period = λ e. (let same : ◌≡◌ {A = ℕ} 97 46 = e in omega (arith, same));
  no_closing_space = λ e. (let same : ◌≡◌ {A = ℕ} 97 32 = e in omega (arith, same));
}

zero_byte : IsBytes (0 ∷ [])
zero_byte zero = lit< tt
zero_byte (suc i) = lit< tt

abbrev sample : Rule → List ℕ
sample rule.Folder = letter
sample rule.Port = 49 ∷ []
sample rule.Key = encode_lower (0 ∷ [])
sample rule.Base = letter
sample rule.Workers = 49 ∷ []
sample rule.Authority = 97 ∷ 58 ∷ 49 ∷ []
sample rule.Id = id_of letter
sample rule.Token = letter
sample rule.Nonce = letter
sample rule.User = letter
sample rule.Name = letter
sample rule.Rights = rights_of false
sample rule.Serial = 49 ∷ []
sample rule.Issued = decimal 1
sample rule.Expires = decimal 1
sample rule.Seed = 49 ∷ []
sample rule.Count = 49 ∷ []
sample rule.Version = 49 ∷ []
sample rule.Journal = 49 ∷ []
sample rule.Each = 49 ∷ []
sample rule.First = 49 ∷ []
sample rule.Links = 49 ∷ []
sample rule.Ids = 49 ∷ []
sample rule.Sync = codes "all"
sample rule.Logs = letter
sample rule.Origin = codes "http://a"

sample_keeps : (r : Rule) → Keeps r (sample r)
sample_keeps rule.Folder = lit< tt
sample_keeps rule.Port = refl
sample_keeps rule.Key =
    (record { current = record { number = 0; key = 0 ∷ []; range = lit≤ tt }; former = None; differ = λ entry e. cc e }, bare ((lit< tt, lit≤ tt), decode_of-encode_lower (0 ∷ []) zero_byte) refl refl)
sample_keeps rule.Base = refl
sample_keeps rule.Workers = refl
sample_keeps rule.Authority = (refl, (1, lit< tt, lit< tt, refl))
sample_keeps rule.Id = (letter, letter_names, refl)
sample_keeps rule.Token = refl
sample_keeps rule.Nonce = refl
sample_keeps rule.User = record { not_empty = lit< tt; short = lit≤ tt; letters = refl }
sample_keeps rule.Name = letter_names
sample_keeps rule.Rights = (false, refl)
sample_keeps rule.Serial = refl
sample_keeps rule.Issued = (1, lit< tt, refl)
sample_keeps rule.Expires = (1, lit< tt, refl)
sample_keeps rule.Seed = refl
sample_keeps rule.Count = refl
sample_keeps rule.Version = refl
sample_keeps rule.Journal = refl
sample_keeps rule.Each = refl
sample_keeps rule.First = refl
sample_keeps rule.Links = refl
sample_keeps rule.Ids = refl
sample_keeps rule.Sync = refl
sample_keeps rule.Logs = lit< tt
sample_keeps rule.Origin = record {
  secure = false;
  host = letter;
  port = 80;
  some = lit< tt;
  letters = refl;
  least = lit< tt;
  most = lit≤ tt;
  text_is = refl;
  short = lit≤ tt;
}

-- ---- one word more

get_front : (words more : List (List ℕ)) (place : ℕ) → place < length words → slice_get (words ++ more) place ≡ slice_get words place
get_front [] more place below = absurd (omega (arith, below))
get_front (one ∷ words) more zero below = refl
get_front (one ∷ words) more (suc place) below = get_front words more place (omega (arith, below))

get_seam : (words : List (List ℕ)) (word : List ℕ) → slice_get (words ++ word ∷ []) (length words) ≡ Some word
get_seam [] word = refl
get_seam (one ∷ words) word = get_seam words word

take_seam : (words : List (List ℕ)) (word : List ℕ) → take (length words) (words ++ word ∷ []) ≡ words
take_seam words word = take-append-le (length words) words (word ∷ []) (omega arith) ∙ take_all (length words) words (omega arith)

fits_longer : (words more : List (List ℕ)) (place : ℕ) → place < length words → Fits words place → Fits (words ++ more) place
fits_longer words more place below fits = record {
  follows = λ word stands.
      let before : take place (words ++ more) ≡ take place words = take-append-le place words more (omega (arith, below)) in
      subst (λ (l : List (List ℕ)). MayFollow l word) (sym before) (fits.follows word (sym (get_front words more place below) ∙ stands));
}

fits_last : (words : List (List ℕ)) (word : List ℕ) → MayFollow words word → Fits (words ++ word ∷ []) (length words)
fits_last words word may = record {
  follows = λ other stands.
      let same : word ≡ other = ap (λ (o : Option (List ℕ)). unwrap_or o word) (sym (get_seam words word) ∙ stands) in
      subst (λ (l : List (List ℕ)). MayFollow l other) (sym (take_seam words word)) (subst (λ (w : List ℕ). MayFollow words w) same may);
}

fit_with : (words : List (List ℕ)) (word : List ℕ) → AllFit words (length words) → MayFollow words word → AllFit (words ++ word ∷ []) (length (words ++ word ∷ []))
fit_with words word all may =
    let long : length (words ++ word ∷ []) ≡ length words + 1 = length-append words (word ∷ []) in
    let before : AllFit (words ++ word ∷ []) (length words) = record { each = λ place below. fits_longer words (word ∷ []) place below (all.each place below) } in
    subst (AllFit (words ++ word ∷ [])) (sym long) (one_more (words ++ word ∷ []) (length words) before (fits_last words word may))

abbrev GoesOn : List (List ℕ) → Type 0
GoesOn words = (more : List (List ℕ)) × IsLine (words ++ more)

with_more : (words : List (List ℕ)) (word : List ℕ) → GoesOn (words ++ word ∷ []) → GoesOn words
with_more words word goes = (word ∷ goes.0, subst IsLine (append_assoc words (word ∷ []) goes.0) goes.1)

ended : (words : List (List ℕ)) → AllFit words (length words) → can_end (next_of words) ≡ true → GoesOn words
ended words all end = ([], subst IsLine (sym (append-nil words)) (record { fit = all; end = ap (λ (b : Bool). b || is_replay words) end }))

may_sample : (words : List (List ℕ)) (r : Rule) → next_of words ≡ next.Word r → MayFollow words (sample r)
may_sample words r is = subst (λ (n : Next). Allows n words (sample r)) (sym is) (sample_keeps r)

-- ---- the words that have rules

get_rule : (rules : List Rule) (at : ℕ) → at < length rules → (r : Rule) × (slice_get rules at ≡ Some r)
get_rule [] at below = absurd (omega (arith, below))
get_rule (r ∷ rules) zero below = (r, refl)
get_rule (r ∷ rules) (suc at) below = get_rule rules at (omega (arith, below))

at_rule : (name : List ℕ) (given : List (List ℕ)) (r : Rule) → slice_get (rules_of name) (length given) ≡ Some r → next_of (name ∷ given) ≡ next.Word r
at_rule name given r is = ap (λ (o : Option Rule). ruled_or o (next_behind name (drop (length (rules_of name)) given))) is

past : (name : List ℕ) (given : List (List ℕ)) → length (rules_of name) ≤ length given → next_of (name ∷ given) ≡ next_behind name (drop (length (rules_of name)) given)
past name given long = ap (λ (o : Option Rule). ruled_or o (next_behind name (drop (length (rules_of name)) given))) (slice_get_past (rules_of name) (length given) long)

ends_bare : (name : List ℕ) → can_end (next_behind name []) ≡ true
unfolding next_behind
ends_bare name =
    elim (bytes_eq name (codes "serve")) as (λ b. can_end (if b then next.EditorOrOption else if bytes_eq name (codes "once") then next.Editor else next.End) ≡ true) [
      | true ↦ refl
      | false ↦ elim (bytes_eq name (codes "once")) as (λ b. can_end (if b then next.Editor else next.End) ≡ true) [ true ↦ refl | false ↦ refl ]
    ]

fill : (k : ℕ) (name : List ℕ) (given : List (List ℕ)) → length given + k ≡ length (rules_of name) → AllFit (name ∷ given) (length (name ∷ given)) → GoesOn (name ∷ given)
fill zero name given long all =
    let none : drop (length (rules_of name)) given ≡ [] = drop_all (length (rules_of name)) given (omega (arith, long)) in
    ended (name ∷ given) all (ap can_end (past name given (omega (arith, long)) ∙ ap (next_behind name) none) ∙ ends_bare name)
fill (suc k) name given long all =
    let found = get_rule (rules_of name) (length given) (omega (arith, long)) in
    let word = sample found.0 in
    let more : length (given ++ word ∷ []) ≡ length given + 1 = length-append given (word ∷ []) in
    let longer = fit_with (name ∷ given) word all (may_sample (name ∷ given) found.0 (at_rule name given found.0 found.1)) in
    with_more (name ∷ given) word (fill k name (given ++ word ∷ []) (omega (arith, long, more)) longer)

-- ---- and those behind them

-- no word has to come, or one that keeps a rule, behind which none has to
abbrev Kinds : Next → (List ℕ → Next) → Type 0
Kinds n after = (can_end n ≡ true) ⊎ ((r : Rule) × (n ≡ next.Word r) × ((v : List ℕ) → can_end (after v) ≡ true))

value_kinds : (o : Option Rule) → Kinds (next_value o) (λ v. next.Option)
value_kinds None = inl refl
value_kinds (Some r) = inr (r, refl, λ v. refl)

option_kinds : (options : List (List ℕ)) → Kinds (next_option options) (λ v. next_option (options ++ v ∷ []))
option_kinds [] = inl refl
option_kinds (name ∷ []) = value_kinds (option_rule name)
option_kinds (name ∷ value ∷ options) = option_kinds options

keep_kinds : (words : List (List ℕ)) → Kinds (next_of_keep words) (λ v. next_of_keep (words ++ v ∷ []))
keep_kinds [] = inr (rule.Logs, refl, λ v. refl)
keep_kinds (logs ∷ words) = option_kinds words

options_kinds : (words : List (List ℕ)) → Kinds (next_of_options words) (λ v. next_of_options (words ++ v ∷ []))
options_kinds [] = inl refl
options_kinds (name ∷ words) =
    elim (bytes_eq name (codes "--keep"))
    as (λ b. Kinds (if b then next_of_keep words else next_option (name ∷ words))
    (λ v. if b then next_of_keep (words ++ v ∷ []) else next_option (name ∷ (words ++ v ∷ [])))) [
      | true ↦ keep_kinds words
      | false ↦ option_kinds (name ∷ words)
    ]

origin_kinds : (words : List (List ℕ)) → Kinds (next_of_origin words) (λ v. next_of_origin (words ++ v ∷ []))
origin_kinds [] = inr (rule.Origin, refl, λ v. refl)
origin_kinds (origin ∷ words) = options_kinds words

editor_kinds : (words : List (List ℕ)) → Kinds (next_of_editor words) (λ v. next_of_editor (words ++ v ∷ []))
editor_kinds [] = inl refl
editor_kinds (name ∷ words) =
    elim (bytes_eq name (codes "--origin"))
    as (λ b. Kinds (if b then next_of_origin words else next_of_options (name ∷ words))
    (λ v. if b then next_of_origin (words ++ v ∷ []) else next_of_options (name ∷ (words ++ v ∷ [])))) [
      | true ↦ origin_kinds words
      | false ↦ options_kinds (name ∷ words)
    ]

serve_kinds : (words : List (List ℕ)) → Kinds (next_of_serve words) (λ v. next_of_serve (words ++ v ∷ []))
serve_kinds [] = inl refl
serve_kinds (word ∷ words) =
    elim (bytes_eq word (codes "--editor"))
    as (λ b. Kinds (if b then next_of_editor words else next_of_options (word ∷ words))
    (λ v. if b then next_of_editor (words ++ v ∷ []) else next_of_options (word ∷ (words ++ v ∷ [])))) [
      | true ↦ editor_kinds words
      | false ↦ options_kinds (word ∷ words)
    ]

once_kinds : (words : List (List ℕ)) → Kinds (next_of_once words) (λ v. next_of_once (words ++ v ∷ []))
once_kinds [] = inl refl
once_kinds (word ∷ []) = inl refl
once_kinds (word ∷ name ∷ []) = inr (rule.Origin, refl, λ v. refl)
once_kinds (word ∷ name ∷ origin ∷ words) = inl refl

behind_kinds : (name : List ℕ) (words : List (List ℕ)) → Kinds (next_behind name words) (λ v. next_behind name (words ++ v ∷ []))
unfolding next_behind
behind_kinds name words =
    elim (bytes_eq name (codes "serve"))
    as (λ b. Kinds (if b then next_of_serve words else if bytes_eq name (codes "once") then next_of_once words else next.End)
    (λ v. if b then next_of_serve (words ++ v ∷ []) else if bytes_eq name (codes "once") then next_of_once (words ++ v ∷ []) else next.End)) [
      | true ↦ serve_kinds words
      | false ↦
          elim (bytes_eq name (codes "once"))
          as (λ b. Kinds (if b then next_of_once words else next.End) (λ v. if b then next_of_once (words ++ v ∷ []) else next.End)) [
            | true ↦ once_kinds words
            | false ↦ inl refl
          ]
    ]

goes_behind : (name : List ℕ) (given : List (List ℕ)) → length (rules_of name) ≤ length given → AllFit (name ∷ given) (length (name ∷ given)) → GoesOn (name ∷ given)
goes_behind name given long all =
    elim (behind_kinds name (drop (length (rules_of name)) given)) [
      | inl end ↦ ended (name ∷ given) all (ap can_end (past name given long) ∙ end)
      | inr some ↦
          (let word = sample some.0 in
          let is : next_of (name ∷ given) ≡ next.Word some.0 = past name given long ∙ some.1 in
          let longer = fit_with (name ∷ given) word all (may_sample (name ∷ given) some.0 is) in
          let more : drop (length (rules_of name)) (given ++ word ∷ []) ≡ drop (length (rules_of name)) given ++ word ∷ [] = drop-append-le (length (rules_of name)) given (word ∷ []) long in
          let size : length (given ++ word ∷ []) ≡ length given + 1 = length-append given (word ∷ []) in
          let last = past name (given ++ word ∷ []) (omega (arith, long, size)) ∙ ap (next_behind name) more in
          with_more (name ∷ given) word (ended (name ∷ (given ++ word ∷ [])) longer (ap can_end last ∙ some.2 word)))
    ]

-- `--help` alone
help_is_line : IsLine (codes "--help" ∷ [])
unfolding rules_of is_single next_behind
help_is_line = record { fit = fit_with [] (codes "--help") (none_yet []) refl; end = refl }

goes_on : (words : List (List ℕ)) → AllFit words (length words) → GoesOn words
goes_on [] all = (codes "--help" ∷ [], help_is_line)
goes_on (name ∷ given) all =
    elim (cases_lt (length given) (length (rules_of name))) [
      | inl short ↦ fill (length (rules_of name) - length given) name given (omega (arith, short)) all
      | inr long ↦ goes_behind name given long all
    ]

-- ---- a front of the words

front_get : (words : List (List ℕ)) (count place : ℕ) (word : List ℕ) → slice_get (take count words) place ≡ Some word
    → (slice_get words place ≡ Some word) × (place < count) × (take place (take count words) ≡ take place words)
front_get [] zero place word is = absurd (cc is)
front_get [] (suc count) place word is = absurd (cc is)
front_get (one ∷ words) zero place word is = absurd (cc is)
front_get (one ∷ words) (suc count) zero word is = (is, omega arith, refl)
front_get (one ∷ words) (suc count) (suc place) word is =
    let rest = front_get words count place word is in
    let low = rest.1 in
    (rest.0, omega (arith, low), ap (λ (l : List (List ℕ)). one ∷ l) rest.2)

front_fits : (words : List (List ℕ)) (count : ℕ) → AllFit words count → AllFit (take count words) (length (take count words))
front_fits words count all = record {
  each = λ place below. record {
    follows = λ word stands.
        let same = front_get words count place word stands in
        let fits = all.each place same.1 in
        subst (λ (l : List (List ℕ)). MayFollow l word) (sym same.2) (fits.follows word same.0);
  };
}

pub good_fronts_go_on : GoodFrontsGoOn
good_fronts_go_on words count all = goes_on (take count words) (front_fits words count all)
