-- A schedule as far as its text has come, piece by piece. (Own.)
use Rattle.std.specs.Prelude.{◌≡◌, ◌⊎◌, ⊤, ℕ, ◌+◌, ◌-◌, ◌*◌, ◌<◌, ◌≤◌, List, [], ◌++◌, Result, Ok, Err, length}
use Rattle.line_text.specs.Words.{IsRow}
use Rattle.schedule_text.specs.declared.reading.Reader.{Reader}
use Rattle.schedule_text.specs.declared.reading.ScheduleFault.{ScheduleFault}
use Rattle.schedule_text.specs.declared.reading.ScheduleFault.TheVariants.{BadLine, Memory}
use Rattle.schedule_text.specs.declared.pieces.PieceReader.{PieceReader}
use Rattle.schedule_text.specs.Schedules.{Lines}
use Rattle.schedule_text.specs.Grammar.{IsBadLine, IsText, most_bytes, most_rows}
use Rattle.schedule_text.specs.Readings.{IsKept, IsRefused, IsSoFar}

-- The text has come to here, but for the bytes ahead: it is the lines that were taken and what there is of the next, which is past no limit,
-- however it goes on.
pub record HasCome (text ahead : List ℕ) (pieces : PieceReader) : Type 0 where
  pub lines : (more : List ℕ) → IsSoFar (text ++ more) (pieces.row.items ++ (ahead ++ more)) pieces.reader
  pub row_is : IsRow pieces.row.items
  pub short : length pieces.row.items ≤ most_bytes
  pub room : 0 < length pieces.row.items → pieces.reader.rows < most_rows

-- a line can be taken
pub record MayTakeLine (reader : Reader) : Type 0 where
  pub few : reader.rows ≤ most_rows
  pub kept : IsKept reader

-- the text has its first bad line here, however it goes on
abbrev pub IsFault : List ℕ → ScheduleFault → Type 0
IsFault text (BadLine number) = (more : List ℕ) → IsBadLine (text ++ more) number
IsFault text Memory = ⊤

-- what became of a text that has come
abbrev pub IsTakenIn : List ℕ → PieceReader → Result (Unit {0}) ScheduleFault → Type 0
IsTakenIn text pieces (Ok _) = HasCome text [] pieces
IsTakenIn text pieces (Err fault) = IsFault text fault

-- the next line has these bytes more
pub record Lengthens (part : List ℕ) (old new : PieceReader) : Type 0 where
  pub row : new.row.items ≡ old.row.items ++ part
  pub reader : new.reader ≡ old.reader
  pub fits : 0 < length part → (old.reader.rows < most_rows) × (length new.row.items ≤ most_bytes)

-- with these bytes more the next line is past a limit
abbrev pub IsOver : List ℕ → PieceReader → ScheduleFault → Type 0
IsOver part old (BadLine number) =
    (number ≡ old.reader.rows + 1) × (0 < length part) × ((most_rows ≤ old.reader.rows) ⊎ (most_bytes < length (old.row.items ++ part)))
IsOver part old Memory = ⊤

-- the next line, as far as it has come, is bad
abbrev pub IsRowFault : PieceReader → ScheduleFault → Type 0
IsRowFault old (BadLine number) = (number ≡ old.reader.rows + 1) × IsRefused old.row.items old.reader
IsRowFault old Memory = ⊤

-- how many bytes more there may be at most
abbrev pub room_of : PieceReader → ℕ
room_of pieces = (most_rows - pieces.reader.rows) * 20001 + (most_bytes - length pieces.row.items)

-- a text read as a schedule: its lines, or its first bad line
abbrev pub IsRead : List ℕ → Result Lines ScheduleFault → Type 0
IsRead text (Ok lines) = IsText text lines
IsRead text (Err (BadLine number)) = IsBadLine text number
IsRead text (Err Memory) = ⊤
