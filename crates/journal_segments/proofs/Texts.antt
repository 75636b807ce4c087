-- The text of a beginning is that of its lines.
use Rattle.std.proofs.Common.{◌≡◌, ℕ, List, [], ◌∷◌, ◌++◌, Option, None, Some, inl, refl, ap, sym, ◌∙◌, append-nil, arith}
use Rattle.std.specs.Prelude.{map}
use Rattle.std.specs.List.{AllByRecursion, flat_map}
use Rattle.wopi_model.specs.declared.locks.Lock.{Lock}
use Rattle.wopi_model.specs.declared.locks.Spent.{Spent}
use Rattle.journal_text.specs.Journals.{row_text}
use Rattle.journal_segments.specs.declared.rows.Head.{Head}
use Rattle.journal_segments.specs.declared.rows.Row.{Row}
use Rattle.journal_segments.specs.declared.rows.Row.TheVariants as row
use Rattle.journal_segments.specs.Places.{AreOnce}
use Rattle.journal_segments.specs.Told.{Placed, size_told}
use Rattle.journal_segments.specs.Rows.{IsHead, IsSegment, at_words, head_words, rows_text, segment_text}
use Rattle.journal_segments.specs.Openings.{IsPlaced, held_rows, held_text, opening_rows, opening_text, place_rows, place_text, spent_text}
use Rattle.journal_segments.proofs.Going.{text-append}
use Rattle.journal_segments.proofs.Written.{begins}

spent-lines : (name : List ℕ) (spent : List Spent) → rows_text (map (λ one. row.Spent name one) spent) ≡ flat_map (spent_text name) spent
spent-lines name [] = refl
spent-lines name (one ∷ spent) =
    ap (λ (l : List ℕ). l ++ rows_text (map (λ other. row.Spent name other) spent)) (append-nil (spent_text name one)) ∙ ap (λ (l : List ℕ). spent_text name one ++ l) (spent-lines name spent)

held-lines : (name : List ℕ) (lock : Option Lock) → rows_text (held_rows name lock) ≡ held_text name lock
held-lines name None = refl
held-lines name (Some lock) = append-nil (held_text name (Some lock) ++ []) ∙ append-nil (held_text name (Some lock))

place-lines : (file : List ℕ × Placed) → rows_text (place_rows file) ≡ place_text file
place-lines file =
    ap (λ (l : List ℕ). l ++ rows_text (held_rows file.0 file.1.lock ++ map (λ one. row.Spent file.0 one) file.1.spent)) (append-nil (row_text (at_words file.0 file.1.version (size_told file.1.contents))))
    ∙ ap (λ (l : List ℕ). row_text (at_words file.0 file.1.version (size_told file.1.contents)) ++ l)
    (text-append (held_rows file.0 file.1.lock) (map (λ one. row.Spent file.0 one) file.1.spent)
    ∙ ap (λ (l : List ℕ). l ++ rows_text (map (λ one. row.Spent file.0 one) file.1.spent)) (held-lines file.0 file.1.lock)
    ∙ ap (λ (l : List ℕ). held_text file.0 file.1.lock ++ l) (spent-lines file.0 file.1.spent))

files-lines : (files : List (List ℕ × Placed)) → rows_text (opening_rows files) ≡ flat_map place_text files
files-lines [] = refl
files-lines (file ∷ files) =
    text-append (place_rows file) (opening_rows files)
    ∙ ap (λ (l : List ℕ). l ++ rows_text (opening_rows files)) (place-lines file)
    ∙ ap (λ (l : List ℕ). place_text file ++ l) (files-lines files)

pub written_is_segment : (head : Head) (files : List (List ℕ × Placed)) → IsHead head → AllByRecursion (IsPlaced head.shard) files → AreOnce files →
    IsSegment (opening_text head files) head (opening_rows files) []
written_is_segment head files is placed once =
    record {
      head_is = is;
      rows_are = begins head files placed once;
      parts = ap (λ (l : List ℕ). row_text (head_words head) ++ l) (sym (files-lines files)) ∙ sym (append-nil (segment_text head (opening_rows files)));
      cut = inl (λ i d below. absurd (omega (arith, below)));
    }
