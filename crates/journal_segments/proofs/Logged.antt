-- The text of a store's log is that of lines of a segment.
use Rattle.std.proofs.Common.{◌≡◌, ℕ, ◌==◌, Bool, true, false, if◌then◌else◌, List, [], ◌∷◌, ◌++◌, map, Option, None, refl, sym, ap, ◌∙◌, append_assoc, append-nil, arith}
use Rattle.std.specs.List.{join_with_byte}
use Rattle.std.specs.Prelude.{decimal}
use Rattle.wopi_text.specs.Ids.{id_of}
use Rattle.wopi_text.specs.declared.lock_field.LockField.{LockField}
use Rattle.wopi_text.specs.declared.lock_field.LockField.TheVariants as field
use Rattle.wopi_model.specs.declared.calls.Act.{Act}
use Rattle.wopi_model.specs.declared.calls.Act.TheVariants as act
use Rattle.host_core.specs.Entries.{Made, accepted_contents, brought_by, kept_act}
use Rattle.host_table.specs.Bounds.{IsBounded, MayTellLock}
use Rattle.host_table.specs.Text.{act_text, call_text, lock_text, optional_hex, optional_number, reason_text, ruling_text, token_fields, version_text}
use Rattle.host_log.specs.Rows as log
use Rattle.host_log.specs.Rows.{Counts, TakenBack}
use Rattle.journal_text.specs.declared.text.Line.{Line}
use Rattle.journal_text.specs.Journals.{row_text}
use Rattle.journal_text.specs.Lines.{MayBeLock, size_of, told_size}
use Rattle.journal_text.specs.Told.{line_of, lock_of}
use Rattle.journal_text.specs.Words.{bare_words}
use Rattle.journal_text.proofs.Bare.{bare_end}
use Rattle.journal_text.proofs.LineTexts.{asked_join, headed}
use Rattle.journal_segments.specs.declared.rows.Row.{Row}
use Rattle.journal_segments.specs.declared.rows.Row.TheVariants as row
use Rattle.journal_segments.specs.Line.{contents_text, entry_text, off_words, size_in}
use Rattle.journal_segments.specs.Logs.{entry_row, logged_rows, rows_of}
use Rattle.journal_segments.specs.Openings.{AreEntries, counted}
use Rattle.journal_segments.specs.Rows.{IsForm, rows_text, text_of}
use Rattle.journal_segments.proofs.Going.{text-append}

abbrev join : List (List ℕ) → List ℕ
join words = join_with_byte 32 words

-- ---- the words of a line, one after another

abbrev named : List ℕ → List ℕ → List ℕ → List ℕ → List ℕ → List ℕ → List ℕ
named a b c d e rest = a ++ 32 ∷ (b ++ 32 ∷ (c ++ 32 ∷ (d ++ 32 ∷ (e ++ 32 ∷ rest))))

abbrev ended : List ℕ → List ℕ → List ℕ → List ℕ → List ℕ → List ℕ → List ℕ
ended token status lock why version size = token ++ 32 ∷ (status ++ 32 ∷ (lock ++ 32 ∷ (why ++ 32 ∷ (version ++ 32 ∷ size))))

abbrev placed : Line → List ℕ → List ℕ
placed line rest = named (decimal line.stamp) (decimal line.shard) (decimal line.pass) (decimal line.moment) (decimal line.now) rest

joined : (line : Line) → join (bare_words line) ≡ placed line (id_of line.name ++ 32 ∷ (act_text line.act ++ 32 ∷ join (bare_end line)))
joined line =
    ap (placed line) (headed (id_of line.name) line.act _ _ ∙ ap (λ (l : List ℕ). id_of line.name ++ 32 ∷ l) (asked_join line.act _ _))

-- as they are written
outer : (a b c call ruling size end : List ℕ) → a ++ 32 ∷ b ++ 32 ∷ c ++ 32 ∷ call ++ 32 ∷ ruling ++ 32 ∷ size ++ end ≡ a ++ 32 ∷ (b ++ 32 ∷ (c ++ 32 ∷ (call ++ 32 ∷ (ruling ++ 32 ∷ (size ++ end)))))
outer a b c call ruling size end = grind (arith, append_assoc)

five_first : (a b c d e rest : List ℕ) → (a ++ 32 ∷ b ++ 32 ∷ c ++ 32 ∷ d ++ 32 ∷ e) ++ rest ≡ a ++ 32 ∷ (b ++ 32 ∷ (c ++ 32 ∷ (d ++ 32 ∷ (e ++ rest))))
five_first a b c d e rest = grind (arith, append_assoc)

four_first : (a b c d rest : List ℕ) → (a ++ 32 ∷ b ++ 32 ∷ c ++ 32 ∷ d) ++ rest ≡ a ++ 32 ∷ (b ++ 32 ∷ (c ++ 32 ∷ (d ++ rest)))
four_first a b c d rest = grind (arith, append_assoc)

named_more : (a b c d e rest end : List ℕ) → named a b c d e rest ++ end ≡ named a b c d e (rest ++ end)
named_more a b c d e rest end = grind (arith, append_assoc)

two_more : (a b rest end : List ℕ) → (a ++ 32 ∷ (b ++ 32 ∷ rest)) ++ end ≡ a ++ 32 ∷ (b ++ 32 ∷ (rest ++ end))
two_more a b rest end = grind (arith, append_assoc)

ended_more : (a b c d e rest end : List ℕ) → ended a b c d e rest ++ end ≡ ended a b c d e (rest ++ end)
ended_more a b c d e rest end = grind (arith, append_assoc)

flat : (a b c d e name asked token status lock why version size contents : List ℕ) →
    a ++ 32 ∷ b ++ 32 ∷ c ++ 32 ∷ (d ++ 32 ∷ e ++ 32 ∷ name ++ 32 ∷ asked ++ 32 ∷ token) ++ 32 ∷ (status ++ 32 ∷ lock ++ 32 ∷ why ++ 32 ∷ version) ++ 32 ∷ size ++ 10 ∷ contents
    ≡ (named a b c d e (name ++ 32 ∷ (asked ++ 32 ∷ ended token status lock why version size)) ++ 10 ∷ []) ++ contents
flat a b c d e name asked token status lock why version size contents =
    let ruling = status ++ 32 ∷ lock ++ 32 ∷ why ++ 32 ∷ version in
    let end : List ℕ = 10 ∷ contents in
    outer a b c (d ++ 32 ∷ e ++ 32 ∷ name ++ 32 ∷ asked ++ 32 ∷ token) ruling size end
    ∙ ap (λ (l : List ℕ). a ++ 32 ∷ (b ++ 32 ∷ (c ++ 32 ∷ l))) (five_first d e name asked token (32 ∷ (ruling ++ 32 ∷ (size ++ end))))
    ∙ ap (λ (l : List ℕ). named a b c d e (name ++ 32 ∷ (asked ++ 32 ∷ (token ++ 32 ∷ l)))) (four_first status lock why version (32 ∷ (size ++ end)))
    ∙ ap (λ (l : List ℕ). named a b c d e (name ++ 32 ∷ (asked ++ 32 ∷ l))) (sym (ended_more token status lock why version size end))
    ∙ ap (λ (l : List ℕ). named a b c d e l) (sym (two_more name asked (ended token status lock why version size) end))
    ∙ sym (named_more a b c d e (name ++ 32 ∷ (asked ++ 32 ∷ ended token status lock why version size)) end)
    ∙ sym (append_assoc (named a b c d e (name ++ 32 ∷ (asked ++ 32 ∷ ended token status lock why version size))) (10 ∷ []) contents)

-- ---- an entry

locks : (lock : LockField) → lock_text lock ≡ optional_hex (lock_of lock)
locks field.Absent = refl
locks field.Empty = refl
locks (field.Held id) = refl

brought : (asked : Act) → size_in (brought_by asked) ≡ size_of (kept_act asked)
brought act.Info = refl
brought (act.Get most) = refl
brought (act.Put lock contents) = refl
brought (act.Lock id) = refl
brought act.GetLock = refl
brought (act.Refresh id) = refl
brought (act.Unlock id) = refl
brought (act.Relock old id) = refl
brought act.Look = refl
brought (act.Create overwrite contents) = refl
brought act.Delete = refl

accepted : (asked : Act) (is : Bool) → size_in (if is then brought_by asked else None) ≡ (if is then size_of (kept_act asked) else None)
accepted asked true = brought asked
accepted asked false = refl

sizes : (one : Made) → size_in (accepted_contents one) ≡ told_size (kept_act one.step.call.act) one.step.ruling.status
sizes one = accepted one.step.call.act (one.step.ruling.status == 200)

-- the text of it, with the lock and the size as words
abbrev with_words : Made → List ℕ → List ℕ → List ℕ
with_words one lock size =
    (placed (line_of one) (id_of one.step.call.name ++ 32 ∷ (act_text (kept_act one.step.call.act) ++ 32 ∷ ended (token_fields one.step.call.token) (decimal one.step.ruling.status) lock
    (reason_text one.step.ruling.reason) (version_text one.step.ruling.version) size)) ++ 10 ∷ []) ++ contents_text (accepted_contents one)

written : (one : Made) → log.entry_text one ≡ with_words one (lock_text one.step.ruling.lock) (optional_number (size_in (accepted_contents one)))
unfolding log.entry_text call_text ruling_text
written one = flat _ _ _ _ _ _ _ _ _ _ _ _ _ (contents_text (accepted_contents one))

pub entry_is_line : (one : Made) → log.entry_text one ≡ entry_text (line_of one)
entry_is_line one =
    written one
    ∙ ap (λ (lock : List ℕ). with_words one lock (optional_number (size_in (accepted_contents one)))) (locks one.step.ruling.lock)
    ∙ ap (λ (size : Option ℕ). with_words one (optional_hex (lock_of one.step.ruling.lock)) (optional_number size)) (sizes one)
    ∙ ap (λ (l : List ℕ). (l ++ 10 ∷ []) ++ contents_text (accepted_contents one)) (sym (joined (line_of one)))

told_lock : (lock : LockField) → MayTellLock lock → MayBeLock (lock_of lock)
told_lock field.Absent tells = tt
told_lock field.Empty tells = tt
told_lock (field.Held id) tells = tells

pub entry_is_form : (one : Made) → IsBounded one → IsForm (entry_row one)
entry_is_form one bounded = (
  record {
    stamp = bounded.stamp;
    shard = omega arith;
    pass = bounded.pass;
    moment = bounded.moment;
    now = bounded.now;
    name = bounded.name;
    asked = bounded.asked;
    token = bounded.token;
    status = bounded.status;
    lock = told_lock one.step.ruling.lock bounded.lock;
    version = bounded.version;
    contents = refl;
  },
  sizes one,
)

pub off_is_line : log.off_line ≡ row_text off_words
unfolding log.off_line
off_is_line = refl

-- ---- all of them

one_text : (one : log.Row) → log.row_text one ≡ rows_text (rows_of one)
one_text (Counts one) = entry_is_line one ∙ sym (append-nil (text_of (entry_row one)))
one_text (TakenBack one) =
    ap (λ (l : List ℕ). l ++ log.off_line) (entry_is_line one)
    ∙ ap (λ (l : List ℕ). text_of (entry_row one) ++ l) (off_is_line ∙ sym (append-nil (text_of row.Off) ∙ append-nil (row_text off_words)))

pub log_is_lines : (rows : List log.Row) → log.rows_text rows ≡ rows_text (logged_rows rows)
log_is_lines [] = refl
log_is_lines (one ∷ rows) =
    ap (λ (l : List ℕ). l ++ log.rows_text rows) (one_text one)
    ∙ ap (λ (l : List ℕ). rows_text (rows_of one) ++ l) (log_is_lines rows)
    ∙ sym (text-append (rows_of one) (logged_rows rows))

behind : (held : List Row) (rows : List log.Row) → counted held (logged_rows rows) ≡ held ++ map entry_row (log.counted rows)
behind held [] = sym (append-nil held)
behind held (Counts one ∷ rows) = ap (λ (l : List Row). held ++ l) (behind (entry_row one ∷ []) rows)
behind held (TakenBack one ∷ rows) = ap (λ (l : List Row). held ++ l) (behind [] rows)

pub log_counts : (rows : List log.Row) → counted [] (logged_rows rows) ≡ map entry_row (log.counted rows)
log_counts rows = behind [] rows

pub log_has_entries : (rows : List log.Row) → AreEntries (logged_rows rows)
log_has_entries [] = tt
log_has_entries (Counts one ∷ rows) = log_has_entries rows
log_has_entries (TakenBack one ∷ rows) = log_has_entries rows
