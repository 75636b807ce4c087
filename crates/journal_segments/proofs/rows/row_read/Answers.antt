use Rattle.std.proofs.Common.{◌≡◌, ◌≢◌, ℕ, List, Option, None}
use Rattle.wopi_text.specs.FileName.{IsFileName}
use Rattle.wopi_model.specs.declared.locks.Lock.{Lock}
use Rattle.wopi_model.specs.declared.locks.Spent.{Spent}
use Rattle.journal_text.specs.declared.text.Line.{Line}
use Rattle.journal_text.specs.Lines.{IsBare, MayFit}
use Rattle.journal_text.specs.Words.{bare_words, words_of}
use Rattle.journal_segments.specs.declared.rows.Row.{Row}
use Rattle.journal_segments.specs.declared.rows.Row.TheVariants as row
use Rattle.journal_segments.specs.Line.{holds_words, off_words, size_in}
use Rattle.journal_segments.specs.Rows.{IsAt, IsForm, IsHeld, IsSpent, at_words, held_words, row_words, spent_words, with_contents}
use Rattle.journal_segments.proofs.rows.row_read.Goals as goal

-- words that are those of no line of any kind
no_row : (words : List (List ℕ)) → ((name : List ℕ) (version : ℕ) (size : Option ℕ) → IsAt name version size → words ≢ at_words name version size)
    → ((name : List ℕ) (lock : Lock) → IsHeld name lock → words ≢ held_words name lock)
    → ((name : List ℕ) (one : Spent) → IsSpent name one → words ≢ spent_words name one)
    → ((name : List ℕ) (size : Option ℕ) → IsFileName name → MayFit size → words ≢ holds_words name size)
    → words ≢ off_words → ((line : Line) → IsBare line → words ≢ bare_words line)
    → (one : Row) → IsForm one → words ≢ row_words one
no_row words at held spent holds off entry (row.At name version size) form = at name version size form.0
no_row words at held spent holds off entry (row.Held name lock) form = held name lock form.0
no_row words at held spent holds off entry (row.Spent name one) form = spent name one form.0
no_row words at held spent holds off entry (row.Entry line) form = entry (with_contents line None) form.0
no_row words at held spent holds off entry row.Off form = off
no_row words at held spent holds off entry (row.Holds name contents) form = holds name (size_in contents) form.0 form.1

pub returns-in_default-bare_line_read-clause-none : goal.returns-in_default-bare_line_read-clause-none
returns-in_default-bare_line_read-clause-none c =
    no_row (words_of c.args.row.now) c.in_default.ensures.none c.in_default-held_read.ensures.none c.in_default-spent_read.ensures.none c.in_default-holds_read.ensures.none
    (λ e. absurd (cc (c.is_off.ensures.1 e, c.if-is_off.false))) c.in_default-bare_line_read.ensures.none
