-- The lines of a text, taken off one by one.
use Rattle.std.proofs.Common.{◌≡◌, ℕ, Bool, false, ◌==◌, List, [], ◌∷◌, ◌++◌, length, get_or, take, drop, ◌+◌, ◌≤◌, ◌<◌, nat_lt, Some, None, refl, sym, ap, ◌∙◌, subst, arith}
use Rattle.std.specs.Prelude.{position}
use Rattle.std.specs.List.{after_first, before_first, onto_first, position_or_len, slice_split}
use Rattle.std.proofs.lemmas.Bool.{eqb-true, ltb-true, lt-ltb}
use Rattle.std.proofs.lemmas.Grind.{common_steps}
use Rattle.std.proofs.lemmas.List.Elements.{All-head, All-tail}
use Rattle.std.proofs.lemmas.List.Sums.{fails_before_first, passes_at_first, split_at_first}
use Rattle.std.proofs.lemmas.List.Splits.{length-slice_split, slice_split_none, slice_split_at, slice_split-cons_no}
use Rattle.schedule_text.specs.Grammar.{rows_of, without_empty_end}
use Rattle.line_text.specs.Words.{IsRow}
use Rattle.line_text.proofs.Endings.{is_feed}

-- a line that another follows is kept
kept : (row : List ℕ) (rows : List (List ℕ)) → 0 < length rows → without_empty_end (row ∷ rows) ≡ row ∷ without_empty_end rows
kept [] [] h = absurd (omega arith)
kept [] (row ∷ rows) h = refl
kept (byte ∷ bytes) rows h = refl

alone : (row : List ℕ) → 0 < length row → without_empty_end (row ∷ []) ≡ row ∷ []
alone [] h = absurd (omega arith)
alone (byte ∷ bytes) h = refl

-- ---- the first line of a text

pub fed : (row rest : List ℕ) → IsRow row → rows_of (row ++ 10 ∷ rest) ≡ row ∷ rows_of rest
fed row rest lacks =
    ap without_empty_end (slice_split_at is_feed row 10 rest lacks refl) ∙ kept row (slice_split is_feed rest) (omega (arith, length-slice_split is_feed rest))

pub lone : (row : List ℕ) → IsRow row → 0 < length row → rows_of row ≡ row ∷ rows_of []
lone row lacks some = ap without_empty_end (slice_split_none is_feed row lacks) ∙ alone row some

-- the first part of a text
first_part : (parts : List (List ℕ)) → 0 < length parts → (first : List ℕ) × (after : List (List ℕ)) × (parts ≡ first ∷ after)
first_part [] some = absurd (omega (arith, some))
first_part (first ∷ after) some = (first, after, refl)

onto : (row first : List ℕ) (after : List (List ℕ)) (more : List ℕ) → IsRow row → slice_split is_feed more ≡ first ∷ after
    → slice_split is_feed (row ++ more) ≡ (row ++ first) ∷ after
onto [] first after more lacks is = is
onto (byte ∷ row) first after more lacks is =
    slice_split-cons_no is_feed byte (row ++ more) (All-head (λ b. is_feed b ≡ false) byte row lacks)
    ∙ ap (λ parts. onto_first byte parts) (onto row first after more (All-tail (λ b. is_feed b ≡ false) byte row lacks) is)

-- a line that has begun is the first
pub record Begins (row text : List ℕ) : Type 0 where
  pub rest : List ℕ
  pub after : List (List ℕ)
  pub rows : rows_of text ≡ (row ++ rest) ∷ after

pub begins : (row more : List ℕ) → IsRow row → 0 < length row → Begins row (row ++ more)
begins [] more lacks some = absurd (omega (arith, some))
begins (byte ∷ row) more lacks some =
    let (first, after, is) = first_part (slice_split is_feed more) (omega (arith, length-slice_split is_feed more)) in
    record { rest = first; after = without_empty_end after; rows = ap without_empty_end (onto (byte ∷ row) first after more lacks is) }
