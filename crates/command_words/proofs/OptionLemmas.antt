-- Names of options, and words that are none.
use Rattle.std.proofs.Common.{◌≡◌, ℕ, zero, suc, Bool, true, false, nat_lt, ◌||◌, ◌&&◌, if◌then◌else◌, List, [], ◌∷◌, length, codes, refl, sym, ap, subst, true≢false, arith}
use Rattle.std.specs.Prelude.{slice_index, take}
use Rattle.std.specs.List.{before_first, position_or_len}
use Rattle.std.specs.Str.{bytes_eq}
use Rattle.std.proofs.lemmas.Slice.Eq.{bytes_eq-Decides}
use Rattle.command_words.specs.declared.options.Kind.{Kind}
use Rattle.command_words.specs.declared.options.Kind.TheVariants as kind
use Rattle.command_words.specs.Options.{is_around_option, is_flag, is_run_option, takes}
use Rattle.command_words.specs.Parts.{is_equals, halves}
use Rattle.command_words.specs.Laws.{IsPlain}

pub same_bytes : (word other : List ℕ) → bytes_eq word other ≡ true → word ≡ other
same_bytes word other is = (bytes_eq-Decides word other).0 is

pub or_cases : {P : Type 0} (a b : Bool) → (a ≡ true → P) → (b ≡ true → P) → (a || b) ≡ true → P
or_cases true b f g is = f refl
or_cases false b f g is = g is

pub not_true : (b : Bool) → (b ≡ true → ⊥) → b ≡ false
not_true true never = absurd (never refl)
not_true false never = refl

-- what holds of the six names holds of an option that the program reads itself
pub of_run_name : (P : List ℕ → Type 0) → P (codes "--journal") → P (codes "--each") → P (codes "--first") → P (codes "--links") → P (codes "--ids") → P (codes "--sync")
    → (word : List ℕ) → is_run_option word ≡ true → P word
unfolding is_run_option
of_run_name P journal each first links ids sync word is =
    let at : (name : List ℕ) → P name → bytes_eq word name ≡ true → P word = λ name p e. subst P (sym (same_bytes word name e)) p in
    or_cases (bytes_eq word (codes "--journal") || bytes_eq word (codes "--each") || bytes_eq word (codes "--first") || bytes_eq word (codes "--links") || bytes_eq word (codes "--ids")) (bytes_eq word (codes "--sync"))
    (or_cases (bytes_eq word (codes "--journal") || bytes_eq word (codes "--each") || bytes_eq word (codes "--first") || bytes_eq word (codes "--links")) (bytes_eq word (codes "--ids"))
    (or_cases (bytes_eq word (codes "--journal") || bytes_eq word (codes "--each") || bytes_eq word (codes "--first")) (bytes_eq word (codes "--links"))
    (or_cases (bytes_eq word (codes "--journal") || bytes_eq word (codes "--each")) (bytes_eq word (codes "--first"))
    (or_cases (bytes_eq word (codes "--journal")) (bytes_eq word (codes "--each")) (at (codes "--journal") journal) (at (codes "--each") each))
    (at (codes "--first") first))
    (at (codes "--links") links))
    (at (codes "--ids") ids))
    (at (codes "--sync") sync) is

-- it begins with a hyphen
abbrev HasHyphen : List ℕ → Type 0
HasHyphen word = slice_index word 0 ≡ 45

run_hyphen : (word : List ℕ) → is_run_option word ≡ true → HasHyphen word
run_hyphen word is = of_run_name HasHyphen refl refl refl refl refl refl word is

named_hyphen : (word name : List ℕ) → HasHyphen name → bytes_eq word name ≡ true → HasHyphen word
named_hyphen word name has is = subst HasHyphen (sym (same_bytes word name is)) has

around_hyphen : (word : List ℕ) → is_around_option word ≡ true → HasHyphen word
unfolding is_around_option
around_hyphen word is =
    or_cases (bytes_eq word (codes "--listen") || bytes_eq word (codes "--idle") || bytes_eq word (codes "--patience")) (bytes_eq word (codes "--grace"))
    (or_cases (bytes_eq word (codes "--listen") || bytes_eq word (codes "--idle")) (bytes_eq word (codes "--patience"))
    (or_cases (bytes_eq word (codes "--listen")) (bytes_eq word (codes "--idle")) (named_hyphen word (codes "--listen") refl) (named_hyphen word (codes "--idle") refl))
    (named_hyphen word (codes "--patience") refl))
    (named_hyphen word (codes "--grace") refl) is

takes_hyphen : (k : Kind) (word : List ℕ) → takes k word ≡ true → HasHyphen word
unfolding takes
takes_hyphen kind.Serve word is =
    or_cases (is_run_option word || is_around_option word || bytes_eq word (codes "--origin")) (bytes_eq word (codes "--keep"))
    (or_cases (is_run_option word || is_around_option word) (bytes_eq word (codes "--origin"))
    (or_cases (is_run_option word) (is_around_option word) (run_hyphen word) (around_hyphen word)) (named_hyphen word (codes "--origin") refl))
    (named_hyphen word (codes "--keep") refl) is
takes_hyphen kind.Edit word is =
    or_cases (bytes_eq word (codes "--file") || bytes_eq word (codes "--nonce")) (bytes_eq word (codes "--idle"))
    (or_cases (bytes_eq word (codes "--file")) (bytes_eq word (codes "--nonce")) (named_hyphen word (codes "--file") refl) (named_hyphen word (codes "--nonce") refl))
    (named_hyphen word (codes "--idle") refl) is
takes_hyphen kind.Token word is =
    or_cases (bytes_eq word (codes "--file") || bytes_eq word (codes "--user")) (bytes_eq word (codes "--for"))
    (or_cases (bytes_eq word (codes "--file")) (bytes_eq word (codes "--user")) (named_hyphen word (codes "--file") refl) (named_hyphen word (codes "--user") refl))
    (named_hyphen word (codes "--for") refl) is
takes_hyphen kind.Ctoken word is =
    or_cases (bytes_eq word (codes "--user")) (bytes_eq word (codes "--for")) (named_hyphen word (codes "--user") refl) (named_hyphen word (codes "--for") refl) is

flag_hyphen : (k : Kind) (word : List ℕ) → is_flag k word ≡ true → HasHyphen word
unfolding is_flag
flag_hyphen kind.Serve word is =
    or_cases (bytes_eq word (codes "--verbose")) (bytes_eq word (codes "--editor")) (named_hyphen word (codes "--verbose") refl) (named_hyphen word (codes "--editor") refl) is
flag_hyphen kind.Edit word is = absurd (true≢false (sym is))
flag_hyphen kind.Token word is =
    or_cases (bytes_eq word (codes "--read")) (bytes_eq word (codes "--write")) (named_hyphen word (codes "--read") refl) (named_hyphen word (codes "--write") refl) is
flag_hyphen kind.Ctoken word is =
    or_cases (bytes_eq word (codes "--read")) (bytes_eq word (codes "--write")) (named_hyphen word (codes "--read") refl) (named_hyphen word (codes "--write") refl) is

-- a word with no hyphen at its front is no option
pub plain_untaken : (k : Kind) (word : List ℕ) → IsPlain word → takes k word ≡ false
plain_untaken k word plain = not_true (takes k word) (λ is. plain (takes_hyphen k word is))

pub plain_no_flag : (k : Kind) (word : List ℕ) → IsPlain word → is_flag k word ≡ false
plain_no_flag k word plain = not_true (is_flag k word) (λ is. plain (flag_hyphen k word is))

-- nor is what stands before an `=` in it
plain_front : (n : ℕ) (word : List ℕ) → IsPlain word → IsPlain (take n word)
plain_front zero word plain = λ is. omega (arith, is)
plain_front (suc n) [] plain = plain
plain_front (suc n) (byte ∷ word) plain = plain

no_second : {A : Type 0} (a b : Bool) (x y : A) → b ≡ false → (if a && b then x else y) ≡ y
no_second true b x y is = ap (λ c. if c then x else y) is
no_second false b x y is = refl

pub plain_whole : (k : Kind) (word : List ℕ) → IsPlain word → halves k word ≡ word ∷ []
plain_whole k word plain =
    no_second (nat_lt (position_or_len is_equals word) (length word)) (takes k (before_first is_equals word)) _ _
    (plain_untaken k (before_first is_equals word) (plain_front (position_or_len is_equals word) word plain))
