-- The text of a host's journal, line by line.
use Rattle.std.proofs.Common.{◌≡◌, ℕ, List, [], ◌∷◌, ◌++◌, length, map, refl, sym, ap, ◌∙◌, append_assoc, append-nil, arith}
use Rattle.std.specs.List.{flat_map}
use Rattle.std.proofs.lemmas.List.{length-map}
use Rattle.wopi_text.specs.declared.lock_field.LockField.{LockField}
use Rattle.wopi_text.specs.declared.lock_field.LockField.TheVariants as field
use Rattle.host_core.specs.Entries.{Made}
use Rattle.host_table.specs.Journal.{JournalView, openings}
use Rattle.host_table.specs.Pieces as pieces
use Rattle.host_table.specs.Text.{call_text, entry_line, file_line, journal_text, last_line, lock_text, optional_hex, ruling_text}
use Rattle.journal_text.specs.declared.text.Format.TheVariants.{Second}
use Rattle.journal_text.specs.Journals.{file_text, first_text, last_text, line_text, rows_of, text_of}
use Rattle.journal_text.specs.Told.{line_of, lock_of, told_by}
use Rattle.journal_text.specs.Written.{end_text}
use Rattle.journal_text.proofs.LineTexts.{file_lines, first_lines, last_lines, line_halves}
use Rattle.journal_text.proofs.Outcomes.{whole_text}

locks : (lock : LockField) → lock_text lock ≡ optional_hex (lock_of lock)
locks field.Absent = refl
locks field.Empty = refl
locks (field.Held id) = refl

ends : (one : Made) → pieces.end_text one ≡ end_text (line_of one)
unfolding ruling_text
ends one = ap (λ (lock : List ℕ). (32 ∷ pieces.told_text one.step.ruling.status lock one.step.ruling.reason one.step.ruling.version) ++ (32 ∷ (optional_hex (line_of one).contents ++ 10 ∷ []))) (locks one.step.ruling.lock)

halves : (one : Made) → pieces.begin_text one ++ pieces.end_text one ≡ entry_line one
unfolding entry_line call_text
halves one = grind (arith, append_assoc, append-nil)

entry : (one : Made) → entry_line one ≡ line_text Second (line_of one)
entry one = sym (halves one) ∙ ap (λ (l : List ℕ). pieces.begin_text one ++ l) (ends one) ∙ line_halves (line_of one)

entries : (merge : List Made) → flat_map entry_line merge ≡ flat_map (line_text Second) (map line_of merge)
entries [] = refl
entries (one ∷ merge) = ap (λ (l : List ℕ). l ++ flat_map entry_line merge) (entry one) ∙ ap (λ (l : List ℕ). line_text Second (line_of one) ++ l) (entries merge)

files : (opening : List (List ℕ × List ℕ)) → flat_map file_line opening ≡ flat_map file_text opening
files [] = refl
files (file ∷ opening) = ap (λ (l : List ℕ). l ++ flat_map file_line opening) (file_lines file) ∙ ap (λ (l : List ℕ). file_text file ++ l) (files opening)

pub host_text : {F : Type 0} (journal : JournalView F) → journal_text journal ≡ text_of (rows_of Second (told_by journal))
host_text journal =
    ap (λ (l : List ℕ). l ++ (flat_map file_line (openings journal.parts) ++ (flat_map entry_line journal.merge ++ last_line (length journal.merge)))) (first_lines journal.opened journal.first)
    ∙ ap (λ (l : List ℕ). first_text Second journal.opened journal.first ++ (l ++ (flat_map entry_line journal.merge ++ last_line (length journal.merge)))) (files (openings journal.parts))
    ∙ ap (λ (l : List ℕ). first_text Second journal.opened journal.first ++ (flat_map file_text (openings journal.parts) ++ (l ++ last_line (length journal.merge)))) (entries journal.merge)
    ∙ ap (λ (l : List ℕ). first_text Second journal.opened journal.first ++ (flat_map file_text (openings journal.parts) ++ (flat_map (line_text Second) (map line_of journal.merge) ++ l)))
    (last_lines (length journal.merge) ∙ ap (last_text Second) (sym (length-map journal.merge line_of)))
    ∙ whole_text Second (told_by journal)
