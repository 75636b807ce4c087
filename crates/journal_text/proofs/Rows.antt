-- The lines of a text: each is found again, one after another.
use Rattle.std.proofs.Common.{◌≡◌, ℕ, ◌-◌, ◌<◌, ◌==◌, false, List, [], ◌∷◌, ◌++◌, length, drop, get_or, refl, sym, ap, ◌∙◌, arith, append_assoc}
use Rattle.std.specs.List.{join_with_byte}
use Rattle.std.proofs.lemmas.List.Splits.{slice_split_at}
use Rattle.std.proofs.lemmas.List.{length-append}
use Rattle.std.proofs.Math.Seq.{drop-append_seam, get_or-append_right}
use Rattle.journal_text.specs.Words.{IsRow, words_of}
use Rattle.journal_text.specs.Journals.{row_text}
use Rattle.journal_text.proofs.Plain.{Lacks-join}
use Rattle.line_text.specs.Words.{parts_at}
use Rattle.line_text.proofs.Splits.{EachLacks, Lacks, join-parts, parts-join}

-- one first line
pub record One (row rest line more : List ℕ) : Type 0 where
  pub same : row ≡ line
  pub rests : rest ≡ more

first_line : (row rest : List ℕ) → IsRow row → parts_at 10 (row ++ 10 ∷ rest) ≡ row ∷ parts_at 10 rest
first_line row rest h = slice_split_at (λ byte. byte == 10) row 10 rest h refl

pub one_first : (row rest line more : List ℕ) → IsRow row → IsRow line → row ++ 10 ∷ rest ≡ line ++ 10 ∷ more → One row rest line more
one_first row rest line more h k e =
    let both = sym (first_line row rest h) ∙ ap (parts_at 10) e ∙ first_line line more k in
    let same : row ≡ line = ap (λ l. get_or l 0 []) both in
    let tails : 10 ∷ rest ≡ 10 ∷ more =
    sym (drop-append_seam row (10 ∷ rest)) ∙ ap (λ (t : List ℕ). drop (length row) t) e ∙ ap (λ (r : List ℕ). drop (length r) (line ++ 10 ∷ more)) same
    ∙ drop-append_seam line (10 ∷ more)
    in
    record { same = same; rests = ap (drop 1) tails }

-- a line and what it says
pub row_said : (row rest more : List ℕ) (word : List ℕ) (words : List (List ℕ)) → IsRow row → EachLacks 32 (word ∷ words) → EachLacks 10 (word ∷ words)
    → row ++ 10 ∷ rest ≡ row_text (word ∷ words) ++ more → (words_of row ≡ word ∷ words) × (rest ≡ more)
unfolding Lacks
row_said row rest more word words h spaces feeds e =
    let line : List ℕ = join_with_byte 32 (word ∷ words) in
    let is : row ++ 10 ∷ rest ≡ line ++ 10 ∷ more = e ∙ append_assoc line (10 ∷ []) more in
    let one = one_first row rest line more h (Lacks-join 10 32 (word ∷ words) refl feeds) is in
    (ap words_of one.same ∙ parts-join 32 word words spaces, one.rests)

-- what has no line feed begins with no line
pub no_line : (bytes line more : List ℕ) → IsRow bytes → bytes ≡ line ++ 10 ∷ more → ⊥
no_line bytes line more h e =
    let len = length-append line (10 ∷ more) in
    let below : length line < length bytes = omega (arith, ap length e, len) in
    let none : length line - length line ≡ 0 = omega arith in
    let at : get_or bytes (length line) 0 ≡ 10 =
    ap (λ (b : List ℕ). get_or b (length line) 0) e ∙ get_or-append_right line (10 ∷ more) (length line) 0 (omega arith)
    ∙ ap (λ (n : ℕ). get_or (10 ∷ more) n 0) none
    in
    let other : (get_or bytes (length line) 0 == 10) ≡ false = h (length line) 0 below in
    cc (sym other ∙ ap (λ (b : ℕ). b == 10) at)

-- the text of a line that says these words
pub row_of_words : (row rest : List ℕ) (words : List (List ℕ)) → words_of row ≡ words → row ++ 10 ∷ rest ≡ row_text words ++ rest
row_of_words row rest words are =
    ap (λ (r : List ℕ). r ++ 10 ∷ rest) (join-parts 32 row words are) ∙ sym (append_assoc (join_with_byte 32 words) (10 ∷ []) rest)
