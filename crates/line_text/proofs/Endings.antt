-- The first line of a text.
use Rattle.std.proofs.Common.{◌≡◌, ℕ, Bool, false, ◌==◌, List, [], ◌∷◌, ◌++◌, length, get_or, take, drop, ◌+◌, ◌≤◌, ◌<◌, nat_lt, Some, None, sym, ap, ◌∙◌, subst, arith}
use Rattle.std.specs.Prelude.{position}
use Rattle.std.specs.List.{after_first, before_first, position_or_len}
use Rattle.std.proofs.lemmas.Bool.{eqb-true, ltb-true, lt-ltb}
use Rattle.std.proofs.lemmas.Grind.{common_steps}
use Rattle.std.proofs.lemmas.List.Sums.{fails_before_first, passes_at_first, split_at_first}
use Rattle.line_text.specs.Words.{IsRow}
use Rattle.line_text.proofs.Splits.{some_place, no_place}

abbrev pub is_feed : ℕ → Bool
is_feed byte = byte == 10

pub not_empty : (b : Bool) (text : List ℕ) → b ≡ (length text == 0) → b ≡ false → 0 < length text
not_empty b [] h k = cc (sym h ∙ k)
not_empty b (byte ∷ bytes) h k = omega arith

-- ---- the first line feed

-- a list without its first elements, and these
front_lacks : (text : List ℕ) → IsRow (before_first is_feed text)
front_lacks text = λ k e m. let k' = fails_before_first is_feed text k e (grind (arith, common_steps)) in grind (arith, common_steps)

record Parts (text row rest : List ℕ) : Type 0 where
  pub whole : text ≡ row ++ 10 ∷ rest
  pub lacks : IsRow row

at_first : (text : List ℕ) → position_or_len is_feed text < length text → Parts text (before_first is_feed text) (after_first is_feed text)
at_first text some =
    let byte : ℕ = get_or text (position_or_len is_feed text) 0 in
    let is : byte ≡ 10 = eqb-true byte 10 (passes_at_first is_feed text 0 some) in
    record {
      whole = split_at_first is_feed text 0 some ∙ ap (λ b. before_first is_feed text ++ b ∷ after_first is_feed text) is;
      lacks = front_lacks text;
    }

pub feed_found : (text : List ℕ) (at : ℕ) → position is_feed text ≡ Some at → (text ≡ take at text ++ 10 ∷ drop (at + 1) text) × IsRow (take at text)
feed_found text at h =
    let found = some_place (nat_lt (position_or_len is_feed text) (length text)) _ at h in
    let parts = at_first text (ltb-true _ _ found.0) in
    let place : position_or_len is_feed text ≡ at = found.1 in
    (subst (λ n. text ≡ take n text ++ 10 ∷ drop (n + 1) text) place parts.whole, subst (λ n. IsRow (take n text)) place parts.lacks)

pub feed_none : (text : List ℕ) → position is_feed text ≡ None → IsRow text
feed_none text h =
    let missing = no_place (nat_lt (position_or_len is_feed text) (length text)) _ h in
    let beyond : length text ≤ position_or_len is_feed text = grind (arith, lt-ltb) in
    λ i d below. fails_before_first is_feed text i d (omega arith)
