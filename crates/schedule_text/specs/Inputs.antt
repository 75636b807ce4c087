-- A schedule that is the whole of an input. (Own.)
use Rattle.std.specs.Prelude.{◌≡◌, ◌<◌, ◌≤◌, ℕ, List, [], ◌∷◌, ◌++◌, length, Option, Result, Ok, Err, ⊤}
use Rattle.outside.specs.Stream.{Are}
use Rattle.line_text.specs.declared.input.InputFault.{InputFault}
use Rattle.line_text.specs.declared.input.InputFault.TheVariants.{Read, Text}
use Rattle.schedule_text.specs.declared.reading.ScheduleFault.{ScheduleFault}
use Rattle.schedule_text.specs.declared.reading.ScheduleFault.TheVariants.{BadLine, Memory}
use Rattle.schedule_text.specs.Schedules.{Lines}
use Rattle.schedule_text.specs.Grammar.{AreRows, IsBadLine, IsText, most_bytes, most_rows, rows_of}

-- the bytes that were left are these lines
pub record IsWholeInput (left : Option (List ℕ)) (lines : Lines) : Type 0 where
  pub text : List ℕ
  pub text_is : Are left text
  pub read : IsText text lines

-- the bytes that were left have their first bad line here
pub record IsBadInput (left : Option (List ℕ)) (number : ℕ) : Type 0 where
  pub text : List ℕ
  pub text_is : Are left text
  pub bad : IsBadLine text number

-- an input read as a schedule
abbrev pub IsInputRead : Option (List ℕ) → Result Lines (InputFault ScheduleFault) → Type 0
IsInputRead left (Ok lines) = IsWholeInput left lines
IsInputRead left (Err (Text (BadLine number))) = IsBadInput left number
IsInputRead left (Err (Text Memory)) = ⊤
IsInputRead left (Err Read) = ⊤

-- Whether these bytes are the front of a schedule rests on what follows: with a line feed behind them, all their lines but the last
-- are good, and the last, which is not whole yet, is past no limit.
pub record IsUndecided (text : List ℕ) : Type 0 where
  pub whole : List (List ℕ)
  pub part : List ℕ
  pub rows : rows_of (text ++ 10 ∷ []) ≡ whole ++ part ∷ []
  pub lines : Lines
  pub good : AreRows whole lines
  pub short : length part ≤ most_bytes
  pub room : 0 < length part → length whole < most_rows
