-- The first word that may not stand where it does.
use Rattle.std.proofs.Common.{◌≡◌, ◌<◌, ◌≤◌, ◌+◌, ◌-◌, ℕ, Bool, true, false, List, [], ◌∷◌, ◌++◌, Option, None, Some, unwrap_or, map, take, drop, length, suc, zero, slice_get, refl, sym, ap, ◌∙◌, subst, arith, true≢false, below_more}
use Rattle.std.proofs.Math.ListN.{get_or}
use Rattle.std.specs.Option.{option_map}
use Rattle.std.proofs.lemmas.List.{drop-map, length-drop, length-map, take_all}
use Rattle.std.proofs.lemmas.Option.{slice_get-map, slice_get_past, slice_get_read, slice_get_within}
use Rattle.command_words.specs.Lines.{AllFit, Allows, Breaks, Fits, IsFirstWrong, IsLine, IsWrongAt, MayFollow, may_end, next_behind, next_in, next_of, ruled_or, rules_of}
use Rattle.command_words.specs.Laws.{NothingMends}
use Rattle.command_words.specs.Names.{name_of}
use Rattle.command_words.specs.declared.lines.Next.{Next}
use Rattle.command_words.specs.declared.rules.Rule.{Rule}
use Rattle.command_words.specs.declared.wrong.How.{How}
use Rattle.command_words.specs.declared.wrong.How.TheVariants.{Missing}
use Rattle.command_words.specs.declared.wrong.Wrong.{Wrong}

-- what is shown of the thing at a place
pub shown_at : {X : Type 0} (shows : X → List ℕ) (xs : List X) (place : ℕ) (x : X) (word : List ℕ) → place < length xs → x ≡ get_or xs place x → word ≡ shows x
    → slice_get (map shows xs) place ≡ Some word
shown_at {X} shows xs place x word within is same =
    slice_get-map shows xs place ∙ (ap (option_map shows) (slice_get_read xs (length xs) place x refl within is) ∙ ap (λ (w : List ℕ). Some w) (sym same))

-- the word may stand there, or it may not, by a test of it
pub fits_there : (words front : List (List ℕ)) (place : ℕ) (next : Next) (word : List ℕ) → front ≡ take place words → next ≡ next_of front → slice_get words place ≡ Some word
    → Allows next front word → Fits words place
fits_there words front place next word is next_is at may = record {
  follows = λ other stands.
      let same : word ≡ other = ap (λ (o : Option (List ℕ)). unwrap_or o word) (sym at ∙ stands) in
      let there : Allows (next_of front) front word = subst (λ (n : Next). Allows n front word) next_is may in
      let behind : Allows (next_of (take place words)) (take place words) word = subst (λ (l : List (List ℕ)). Allows (next_of l) l word) is there in
      subst (λ (w : List ℕ). Allows (next_of (take place words)) (take place words) w) same behind;
}

pub breaks_there : (words front : List (List ℕ)) (place : ℕ) (next : Next) (word : List ℕ) → front ≡ take place words → next ≡ next_of front → slice_get words place ≡ Some word
    → (Allows next front word → ⊥) → Breaks words place
breaks_there words front place next word is next_is at none = record {
  word = word;
  stands = at;
  wrong = λ may.
      let there : Allows (next_of front) front word = subst (λ (l : List (List ℕ)). Allows (next_of l) l word) (sym is) may in
      none (subst (λ (n : Next). Allows n front word) (sym next_is) there);
}

pub none_yet : (words : List (List ℕ)) → AllFit words 0
none_yet words = record { each = λ place below. absurd (omega (arith, below)) }

pub one_more : (words : List (List ℕ)) (count : ℕ) → AllFit words count → Fits words count → AllFit words (count + 1)
one_more words count all one = record { each = below_more (Fits words) count all.each one }

pub first_wrong : (words : List (List ℕ)) (place : ℕ) (next : Next) (how : How) (wrong : Wrong) → AllFit words place → next ≡ next_of (take place words) → IsWrongAt words place how
    → wrong.how ≡ how → wrong.name.now ≡ name_of next → IsFirstWrong words wrong
first_wrong words place next how wrong all next_is at how_is name_is = record {
  place = place;
  front = all;
  wrong_at = subst (IsWrongAt words place) (sym how_is) at;
  name = name_is ∙ ap name_of next_is;
}

-- behind the last word one is missing
pub missing_last : {X : Type 0} (shows : X → List ℕ) (xs : List X) (next : Next) (end : Bool) (wrong : Wrong) → AllFit (map shows xs) (length xs) → next ≡ next_of (map shows xs)
    → end ≡ may_end (map shows xs) → end ≡ false → wrong.how ≡ Missing → wrong.name.now ≡ name_of next → IsFirstWrong (map shows xs) wrong
missing_last {X} shows xs next end wrong all next_is end_is untrue how_is name_is =
    let long : length (map shows xs) ≡ length xs = length-map xs shows in
    let whole : take (length xs) (map shows xs) ≡ map shows xs = take_all (length xs) (map shows xs) (omega (arith, long)) in
    first_wrong (map shows xs) (length xs) next Missing wrong all (next_is ∙ ap next_of (sym whole))
    (record { behind = sym long; unended = λ ends. true≢false (sym ends ∙ (sym end_is ∙ untrue)) }) how_is name_is

pub whole_line : {X : Type 0} (shows : X → List ℕ) (xs : List X) (end : Bool) → AllFit (map shows xs) (length xs) → end ≡ may_end (map shows xs) → end ≡ true → IsLine (map shows xs)
whole_line {X} shows xs end all end_is holds = record {
  fit = subst (AllFit (map shows xs)) (sym (length-map xs shows)) all;
  end = sym end_is ∙ holds;
}

-- behind the last rule of a command
pub behind_rules : {X : Type 0} (shows : X → List ℕ) (xs : List X) (name : List ℕ) (rules : List Rule) (next : Next) → rules ≡ rules_of name → length rules ≤ length xs
    → next ≡ next_behind name (map shows (take (length xs - length rules) (drop (length rules) xs))) → next ≡ next_in name (map shows xs)
behind_rules {X} shows xs name rules next is past behind =
    let long : length (map shows xs) ≡ length xs = length-map xs shows in
    let left : length (drop (length rules) xs) ≡ length xs - length rules = length-drop (length rules) xs in
    let none : slice_get rules (length (map shows xs)) ≡ None = slice_get_past rules (length (map shows xs)) (omega (arith, long, past)) in
    let all : take (length xs - length rules) (drop (length rules) xs) ≡ drop (length rules) xs = take_all (length xs - length rules) (drop (length rules) xs) (omega (arith, left)) in
    let same : map shows (take (length xs - length rules) (drop (length rules) xs)) ≡ drop (length rules) (map shows xs) = ap (map shows) all ∙ sym (drop-map shows (length rules) xs) in
    let last : ruled_or (slice_get rules (length (map shows xs))) (next_behind name (drop (length rules) (map shows xs))) ≡ next_behind name (drop (length rules) (map shows xs)) =
    ap (λ (o : Option Rule). ruled_or o (next_behind name (drop (length rules) (map shows xs)))) none in
    subst (λ (r : List Rule). next ≡ ruled_or (slice_get r (length (map shows xs))) (next_behind name (drop (length r) (map shows xs)))) is
    (behind ∙ (ap (next_behind name) same ∙ sym last))

front_kept : (words more : List (List ℕ)) (place : ℕ) (word : List ℕ) → slice_get words place ≡ Some word
    → (take place (take (suc place) words ++ more) ≡ take place words) × (slice_get (take (suc place) words ++ more) place ≡ Some word)
front_kept [] more place word is = absurd (cc is)
front_kept (one ∷ words) more zero word is = (refl, is)
front_kept (one ∷ words) more (suc place) word is =
    let rest = front_kept words more place word is in
    (ap (λ (l : List (List ℕ)). one ∷ l) rest.0, rest.1)

-- no words behind a wrong one make a command of them
pub nothing_mends : NothingMends
nothing_mends words more place breaks line =
    let kept = front_kept words more place breaks.word breaks.stands in
    let next : suc place ≡ place + 1 = omega arith in
    let front : take place (take (place + 1) words ++ more) ≡ take place words =
    subst (λ (n : ℕ). take place (take n words ++ more) ≡ take place words) next kept.0 in
    let stands : slice_get (take (place + 1) words ++ more) place ≡ Some breaks.word =
    subst (λ (n : ℕ). slice_get (take n words ++ more) place ≡ Some breaks.word) next kept.1 in
    let fits = line.fit.each place (slice_get_within (take (place + 1) words ++ more) place breaks.word stands) in
    breaks.wrong (subst (λ (l : List (List ℕ)). MayFollow l breaks.word) front (fits.follows breaks.word stands))
