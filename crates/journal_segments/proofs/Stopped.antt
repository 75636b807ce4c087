-- A front of a segment is one.
use Rattle.std.proofs.Common.{◌≡◌, ◌⊎◌, ℕ, ◌==◌, false, List, [], ◌∷◌, ◌++◌, length, drop, get_or, Option, None, Some, inl, inr, refl, sym, ap, ◌∙◌, subst, arith, append_assoc, append-nil}
use Rattle.std.specs.List.{join_with_byte}
use Rattle.std.proofs.lemmas.List.{length-append, nil_from_length}
use Rattle.std.proofs.lemmas.List.Elements.{All-take}
use Rattle.std.proofs.Math.Seq.{take-append_seam}
use Rattle.line_text.specs.Words.{IsRow}
use Rattle.line_text.proofs.Splits.{EachLacks, Lacks}
use Rattle.journal_text.specs.Journals.{row_text}
use Rattle.journal_text.proofs.Plain.{Lacks-join, feed}
use Rattle.journal_segments.specs.declared.rows.Head.{Head}
use Rattle.journal_segments.specs.declared.rows.Row.{Row}
use Rattle.journal_segments.specs.declared.state.State.{State}
use Rattle.journal_segments.specs.Line.{contents_text, size_in}
use Rattle.journal_segments.specs.Rows.{AreRows, IsCut, IsForm, IsLine, IsSegment, IsCutShort, MayCome, bare, contents_of, head_text, head_words, row_words, rows_text, start, state_after, step, text_of, words_with}
use Rattle.journal_segments.proofs.Lines.{comes_bare, head-lacks, line-lacks, row-lacks, words_bare}

-- ---- lists

tail_of : {x y : ℕ} {r s : List ℕ} → x ∷ r ≡ y ∷ s → r ≡ s
tail_of e = ap (λ (l : List ℕ). drop 1 l) e

-- a front has all of what a text begins with, and more, or is a front of that, which has more
abbrev Parts : List ℕ → List ℕ → List ℕ → List ℕ → Type 0
Parts first behind front rest =
    ((more : List ℕ) × (front ≡ first ++ more) × (behind ≡ more ++ rest)) ⊎ ((byte : ℕ) × (more : List ℕ) × (first ≡ front ++ byte ∷ more))

one_more : (byte : ℕ) (first behind front rest : List ℕ) → Parts first behind front rest → Parts (byte ∷ first) behind (byte ∷ front) rest
one_more byte first behind front rest (inl (more, is, end)) = inl (more, ap (λ (l : List ℕ). byte ∷ l) is, end)
one_more byte first behind front rest (inr (next, more, is)) = inr (next, more, ap (λ (l : List ℕ). byte ∷ l) is)

parts : (first behind front rest : List ℕ) → first ++ behind ≡ front ++ rest → Parts first behind front rest
parts [] behind front rest e = inl (front, refl, e)
parts (byte ∷ first) behind [] rest e = inr (byte, first, refl)
parts (byte ∷ first) behind (other ∷ front) rest e =
    let same : byte ≡ other = ap (λ (l : List ℕ). get_or l 0 0) e in
    let P : ℕ → Type 0 = λ it. Parts (byte ∷ first) behind (it ∷ front) rest in
    subst P same (one_more byte first behind front rest (parts first behind front rest (tail_of e)))

row_front : (front rest : List ℕ) → IsRow (front ++ rest) → IsRow front
row_front front rest none = subst IsRow (take-append_seam front rest) (All-take (λ byte. (byte == 10) ≡ false) (length front) (front ++ rest) none)

-- ---- a line

-- a front of a line that lacks a byte
line_front : (words : List (List ℕ)) (front : List ℕ) (byte : ℕ) (more : List ℕ) → EachLacks 10 words → row_text words ≡ front ++ byte ∷ more → IsRow front
unfolding Lacks
line_front words front byte more lacks e =
    let line : List ℕ = join_with_byte 32 words in
    let none : IsRow line = Lacks-join 10 32 words refl lacks in
    elim (parts line (10 ∷ []) front (byte ∷ more) e) as (λ _. IsRow front) [
      | inl (rest, is, end) ↦
          let long = ap length end ∙ length-append rest (byte ∷ more) in
          let nothing : rest ≡ [] = nil_from_length rest (omega (arith, long)) in
          subst IsRow (sym (append-nil line) ∙ ap (λ (l : List ℕ). line ++ l) (sym nothing) ∙ sym is) none
      | inr (next, rest, is) ↦ row_front front (next ∷ rest) (subst IsRow is none)
    ]

-- ---- what was cut off

cut_front : (state : State) (tail front rest : List ℕ) → IsCut state tail → tail ≡ front ++ rest → IsCut state front
cut_front state tail front rest (inl none) e = inl (row_front front rest (subst IsRow e none))
cut_front state tail front rest (inr u) e =
    let words = words_with u.one (Some u.size) in
    elim (parts (row_text words) u.part front rest (sym u.parts ∙ e)) as (λ _. IsCut state front) [
      | inl (part, is, end) ↦
          let few = u.few in
          let long = ap length end ∙ length-append part rest in
          inr (record { one = u.one; size = u.size; part = part; line_is = u.line_is; comes = u.comes; parts = is; few = omega (arith, few, long) })
      | inr (byte, more, is) ↦ inl (line_front words front byte more (line-lacks 10 u.one (Some u.size) feed u.line_is) is)
    ]

-- contents that aren't all there
contents_front : (state : State) (one : Row) (contents : Option (List ℕ)) (front : List ℕ) (byte : ℕ) (more : List ℕ) → IsForm one → MayCome state one → contents_of one ≡ contents
    → row_text (row_words one) ++ contents_text contents ≡ front ++ byte ∷ more → IsCut state front
contents_front state one None front byte more form comes has e =
    inl (line_front (row_words one) front byte more (row-lacks 10 one feed form) (sym (append-nil (row_text (row_words one))) ∙ e))
contents_front state one (Some contents) front byte more form comes has e =
    elim (parts (row_text (row_words one)) (contents ++ 10 ∷ []) front (byte ∷ more) e) as (λ _. IsCut state front) [
      | inl (part, is, end) ↦
          let size : size_in (contents_of one) ≡ Some (length contents) = ap size_in has in
          let P : Option ℕ → Type 0 = λ n. IsLine (bare one) n in
          let long = ap length end in
          let a = length-append contents (10 ∷ []) in
          let b = length-append part (byte ∷ more) in
          inr (record {
            one = bare one;
            size = length contents;
            part = part;
            line_is = subst P size form;
            comes = comes_bare state one comes;
            parts = is ∙ ap (λ (words : List (List ℕ)). row_text words ++ part) (sym (words_bare one) ∙ ap (words_with (bare one)) size);
            few = omega (arith, long, a, b);
          })
      | inr (next, rest, is) ↦ inl (line_front (row_words one) front next rest (row-lacks 10 one feed form) is)
    ]

-- ---- lines

record AreCutShort (state : State) (rows : List Row) (front : List ℕ) : Type 0 where
  kept : List Row
  lost : List Row
  tail : List ℕ
  rows_are : rows ≡ kept ++ lost
  are : AreRows state kept
  parts : front ≡ rows_text kept ++ tail
  cut : IsCut (state_after state kept) tail

rows_front : (state : State) (rows : List Row) (tail front rest : List ℕ) → AreRows state rows → IsCut (state_after state rows) tail → rows_text rows ++ tail ≡ front ++ rest
    → AreCutShort state rows front
rows_front state [] tail front rest are cut e =
    record { kept = []; lost = []; tail = front; rows_are = refl; are = tt; parts = refl; cut = cut_front state tail front rest cut e }
rows_front state (one ∷ rows) tail front rest are cut e =
    elim (parts (text_of one) (rows_text rows ++ tail) front rest (sym (append_assoc (text_of one) (rows_text rows) tail) ∙ e)) as (λ _. AreCutShort state (one ∷ rows) front) [
      | inl (more, is, end) ↦
          let it = rows_front (step state one) rows tail more rest are.2 cut end in
          record {
            kept = one ∷ it.kept;
            lost = it.lost;
            tail = it.tail;
            rows_are = ap (λ (l : List Row). one ∷ l) it.rows_are;
            are = (are.0, are.1, it.are);
            parts = is ∙ ap (λ (l : List ℕ). text_of one ++ l) it.parts ∙ sym (append_assoc (text_of one) (rows_text it.kept) it.tail);
            cut = it.cut;
          }
      | inr (byte, more, is) ↦
          record { kept = []; lost = one ∷ rows; tail = front; rows_are = refl; are = tt; parts = refl; cut = contents_front state one (contents_of one) front byte more are.0 are.1 refl is }
    ]

pub front_is_segment : (bytes front rest : List ℕ) (head : Head) (rows : List Row) (tail : List ℕ) → IsSegment bytes head rows tail → bytes ≡ front ++ rest → IsRow front ⊎ IsCutShort front head rows
front_is_segment bytes front rest head rows tail h e =
    elim (parts (head_text head) (rows_text rows ++ tail) front rest (sym (append_assoc (head_text head) (rows_text rows) tail) ∙ sym h.parts ∙ e)) as (λ _. IsRow front ⊎ IsCutShort front head rows) [
      | inl (more, is, end) ↦
          let it = rows_front (start head) rows tail more rest h.rows_are h.cut end in
          inr (record {
            kept = it.kept;
            lost = it.lost;
            tail = it.tail;
            rows_are = it.rows_are;
            segment = record {
              head_is = h.head_is;
              rows_are = it.are;
              parts = is ∙ ap (λ (l : List ℕ). head_text head ++ l) it.parts ∙ sym (append_assoc (head_text head) (rows_text it.kept) it.tail);
              cut = it.cut;
            };
          })
      | inr (byte, more, is) ↦ inl (line_front (head_words head) front byte more (head-lacks 10 head feed h.head_is) is)
    ]
