-- Segments that a host may have written. (Own: the rules of a step, read over the lines of a segment.)
use Rattle.std.specs.Prelude.{◌≡◌, ⊤, ℕ, zero, suc, ◌+◌, Bool, true, false, ◌&&◌, ◌==◌, List, [], ◌∷◌, Option, None, Some}
use Rattle.wopi_model.specs.File.{File}
use Rattle.wopi_model.specs.Settle.{settled}
use Rattle.wopi_model.specs.Begin.{at_name}
use Rattle.journal_text.specs.declared.text.Line.{Line}
use Rattle.journal_audit.specs.Judging.{stores}
use Rattle.journal_audit.specs.Lines.{IsRuledOn}
use Rattle.journal_segments.specs.declared.rows.Head.{Head}
use Rattle.journal_segments.specs.declared.rows.Row.{Row}
use Rattle.journal_segments.specs.declared.rows.Row.TheVariants as row
use Rattle.journal_segments.specs.declared.state.State.{State}
use Rattle.journal_segments.specs.Told.{Told, unmet}
use Rattle.journal_segments.specs.Rows.{IsSegment, last_entry, start, step, told_at}
use Rattle.segment_audit.specs.declared.verdict.RowFault.{RowFault}
use Rattle.segment_audit.specs.declared.verdict.RowFault.TheVariants as fault
use Rattle.segment_audit.specs.Sizes.{file_of}

-- ---- one line

-- what is told of the file of that name
abbrev pub file_told : Told → List ℕ → File
file_told told name = file_of (at_name (unmet told.first) told.files name)

-- Status, lock, reason and version of an entry are those of an outcome of the step, on its file as it was told before, settled at the
-- entry's time.
abbrev pub IsRuledAt : Told → Line → Type 0
IsRuledAt told line = IsRuledOn (settled (file_told told line.name) line.now) line told.opened line.now

-- that entry is an accepted save or removal
abbrev pub is_saved : Option Line → Bool
is_saved None = false
is_saved (Some line) = (line.status == 200) && stores line.act

-- A host that keeps the rules may write the line next. One that is taken back was judged as each other, and then the folder failed.
abbrev pub IsRight : State → Row → Type 0
IsRight state (row.Entry line) = IsRuledAt (told_at state) line
IsRight state row.Off = is_saved (last_entry state.pending) ≡ true
IsRight state other = ⊤

-- what is wrong with a line
abbrev pub HasFault : State → Row → RowFault → Type 0
HasFault state (row.Entry line) fault.Ruling = IsRuledAt (told_at state) line → ⊥
HasFault state row.Off fault.TakenBack = is_saved (last_entry state.pending) ≡ true → ⊥
HasFault state other wrong = ⊥

-- ---- all lines

abbrev pub AreRight : State → List Row → Type 0
AreRight state [] = ⊤
AreRight state (one ∷ rows) = IsRight state one × AreRight (step state one) rows

-- so many lines are right, and the one behind them has that fault
abbrev pub IsBadAt : State → List Row → ℕ → RowFault → Type 0
IsBadAt state [] place wrong = ⊥
IsBadAt state (one ∷ rows) zero wrong = HasFault state one wrong
IsBadAt state (one ∷ rows) (suc place) wrong = IsRight state one × IsBadAt (step state one) rows place wrong

-- ---- a whole segment, and what was cut off behind it

pub record IsLegalSegment (bytes : List ℕ) : Type 0 where
  pub head : Head
  pub rows : List Row
  pub tail : List ℕ
  pub segment : IsSegment bytes head rows tail
  pub right : AreRight (start head) rows

-- that is the number of the first line, counted from 1, that no host that keeps the rules may have written
pub record IsBadLine (bytes : List ℕ) (line : ℕ) (wrong : RowFault) : Type 0 where
  pub head : Head
  pub rows : List Row
  pub tail : List ℕ
  pub segment : IsSegment bytes head rows tail
  pub place : ℕ
  pub line_is : line ≡ place + 2
  pub bad : IsBadAt (start head) rows place wrong
