-- Texts that a byte parts.
use Rattle.std.proofs.Common.{◌≡◌, ℕ, Bool, true, false, ◌==◌, List, [], ◌∷◌, ◌++◌, length, get_or, take, drop, ◌+◌, ◌≤◌, ◌<◌, ◌^◌, cond, nat_lt, Some, None, refl, sym, ap, ◌∙◌, subst, arith}
use Rattle.std.specs.Char.{is_ascii_digit}
use Rattle.std.specs.Fmt.{decimal}
use Rattle.std.specs.Prelude.{position}
use Rattle.std.specs.List.{after_first, before_first, join_with_byte, list_all, position_or_len, slice_split}
use Rattle.std.proofs.lemmas.Bool.{eq-eqb, eqb-true, ltb-true, lt-ltb}
use Rattle.std.proofs.lemmas.Grind.{common_steps}
use Rattle.std.proofs.lemmas.List.Elements.{All-head, All-tail}
use Rattle.std.proofs.lemmas.List.Sums.{AllPass-from_list_all, fails_before_first, passes_at_first, split_at_first}
use Rattle.std.proofs.lemmas.List.Splits.{join_with_byte-slice_split, slice_split_at}
use Rattle.std.proofs.lemmas.Fmt.{digits_decimal}
use Rattle.wopi_text.proofs.Decimals.{AreDigits, own}
use Rattle.access_tokens.specs.Marks.{Lacks}

abbrev pub is : ℕ → ℕ → Bool
is mark byte = byte == mark

pub other : (mark : ℕ) (p : ℕ → Bool) (byte : ℕ) → p mark ≡ false → p byte ≡ true → (byte == mark) ≡ false
other mark p byte fails passes =
    elim (byte == mark) as (λ b. (byte == mark) ≡ b → b ≡ false) [
      | true ↦ λ e. let same = eqb-true byte mark e in let at : p byte ≡ p mark = ap p same in cc
      | false ↦ λ _. refl
    ] refl

-- where each byte passes a test that the mark doesn't
pub Lacks-list_all : (mark : ℕ) (p : ℕ → Bool) (text : List ℕ) → p mark ≡ false → list_all p text ≡ true → Lacks mark text
Lacks-list_all mark p text fails h = λ i d below. other mark p (get_or text i d) fails (AllPass-from_list_all p text h i d below)

pub Lacks-decimal : (mark n : ℕ) → is_ascii_digit mark ≡ false → n < 2 ^ 64 → Lacks mark (decimal n)
unfolding AreDigits
Lacks-decimal mark n other h = Lacks-list_all mark is_ascii_digit (decimal n) other (digits_decimal own n h)

-- a text with the mark in it doesn't lack it
pub has_mark : (mark : ℕ) (first second : List ℕ) → ¬ Lacks mark (first ++ mark ∷ second)
has_mark mark [] second h = let none = All-head (λ b. is mark b ≡ false) mark second h in cc (sym (eq-eqb mark mark refl) ∙ none)
has_mark mark (byte ∷ first) second h = has_mark mark first second (All-tail (λ b. is mark b ≡ false) byte (first ++ mark ∷ second) h)

-- a text is parted at its first mark in one way
pub same_halves : (mark : ℕ) (a b c d : List ℕ) → Lacks mark a → Lacks mark c → a ++ mark ∷ b ≡ c ++ mark ∷ d → (a ≡ c) × (b ≡ d)
same_halves mark a b c d one other e =
    let yes : is mark mark ≡ true = eq-eqb mark mark refl in
    let parts : a ∷ slice_split (is mark) b ≡ c ∷ slice_split (is mark) d =
    sym (slice_split_at (is mark) a mark b one yes) ∙ ap (slice_split (is mark)) e ∙ slice_split_at (is mark) c mark d other yes in (
      ap (λ (all : List (List ℕ)). get_or all 0 []) parts,
      sym (join_with_byte-slice_split mark b) ∙ ap (λ (all : List (List ℕ)). join_with_byte mark (drop 1 all)) parts
          ∙ join_with_byte-slice_split mark d,
    )

-- a choice that gave a place, and one that gave none
some_place : (b : Bool) (place at : ℕ) → cond b (Some place) None ≡ Some at → (b ≡ true) × (place ≡ at)
some_place true place at h = (refl, cc)
some_place false place at h = cc h

no_place : (b : Bool) (place : ℕ) → cond b (Some place) None ≡ None → b ≡ false
no_place true place h = cc h
no_place false place h = refl

front_lacks : (mark : ℕ) (text : List ℕ) → Lacks mark (before_first (is mark) text)
front_lacks mark text = λ k e m. let k' = fails_before_first (is mark) text k e (grind (arith, common_steps)) in grind (arith, common_steps)

record Halves (mark : ℕ) (text first second : List ℕ) : Type 0 where
  pub whole : text ≡ first ++ mark ∷ second
  pub lacks : Lacks mark first

at_first : (mark : ℕ) (text : List ℕ) → position_or_len (is mark) text < length text
    → Halves mark text (before_first (is mark) text) (after_first (is mark) text)
at_first mark text some =
    let byte : ℕ = get_or text (position_or_len (is mark) text) 0 in
    let same : byte ≡ mark = eqb-true byte mark (passes_at_first (is mark) text 0 some) in
    record {
      whole = split_at_first (is mark) text 0 some ∙ ap (λ b. before_first (is mark) text ++ b ∷ after_first (is mark) text) same;
      lacks = front_lacks mark text;
    }

-- the place of a mark parts a text
pub parted : (mark : ℕ) (text : List ℕ) (at : ℕ) → position (is mark) text ≡ Some at
    → (text ≡ take at text ++ mark ∷ drop (at + 1) text) × Lacks mark (take at text)
parted mark text at h =
    let found = some_place (nat_lt (position_or_len (is mark) text) (length text)) _ at h in
    let halves = at_first mark text (ltb-true _ _ found.0) in
    let place : position_or_len (is mark) text ≡ at = found.1 in (
      subst (λ n. text ≡ take n text ++ mark ∷ drop (n + 1) text) place halves.whole,
      subst (λ n. Lacks mark (take n text)) place halves.lacks,
    )

-- where there is none, the text lacks it
pub unparted : (mark : ℕ) (text : List ℕ) → position (is mark) text ≡ None → Lacks mark text
unparted mark text h =
    let missing = no_place (nat_lt (position_or_len (is mark) text) (length text)) _ h in
    let beyond : length text ≤ position_or_len (is mark) text = grind (arith, lt-ltb) in
    λ i d below. fails_before_first (is mark) text i d (omega arith)
