-- A script as far as its text has come.
use Rattle.std.specs.Prelude.{ℕ, ◌≡◌, ◌≢◌, ◌+◌, ◌-◌, ◌*◌, ◌<◌, ◌≤◌, ◌⊎◌, List, [], ◌∷◌, ◌++◌, Result, Ok, Err, length, ⊤}
use Rattle.std.specs.List.{AllByRecursion}
use Rattle.grid_editor.specs.declared.command.Command.{Command}
use Rattle.grid_editor.specs.declared.script.Reader.{Reader}
use Rattle.grid_editor.specs.declared.script.ScriptFault.{ScriptFault}
use Rattle.grid_editor.specs.declared.script.ScriptFault.TheVariants.{BadCommand, Memory}
use Rattle.grid_editor.specs.Commands.{Says, IsIdle}
use Rattle.grid_editor.specs.Scripts.{AreGood, IsBad, IsFirstBad, IsRead, lines_of, most_bytes, most_lines}

-- bytes without a line feed
abbrev pub IsLine : List ℕ → Type 0
IsLine line = AllByRecursion (λ byte. byte ≢ 10) line

-- The text so far is whole lines and what the reader has of the next, however it goes on.
pub record IsSoFar (text : List ℕ) (reader : Reader) : Type 0 where
  pub done : List (List ℕ)
  pub splits : (more : List ℕ) → lines_of (text ++ more) ≡ done ++ lines_of (reader.line.items ++ more)
  pub good : AreGood done reader.commands.items
  pub count : reader.lines ≡ length done
  pub line_is : IsLine reader.line.items
  pub short : length reader.line.items ≤ most_bytes
  pub room : 0 < length reader.line.items → reader.lines < most_lines

-- what was taken up to here, or the first bad line, however the text goes on
abbrev pub IsReadThrough : List ℕ → Reader → Result (Unit {0}) ScriptFault → Type 0
IsReadThrough text reader (Ok _) = IsSoFar text reader
IsReadThrough text reader (Err (BadCommand number)) = (more : List ℕ) → IsFirstBad (text ++ more) number
IsReadThrough text reader (Err Memory) = ⊤

-- how many bytes more there may be at most
abbrev pub room_of : Reader → ℕ
room_of reader = (most_lines - reader.lines) * 20001 + (most_bytes - length reader.line.items)

-- the line's command was added, where it says one
abbrev pub Adds : List ℕ → List Command → List Command → Type 0
Adds line old new = (IsIdle line × (new ≡ old)) ⊎ ((command : Command) × Says line command × (new ≡ old ++ command ∷ []))

-- why the line with this number is refused: it says no command, and does something
abbrev pub IsUnread : ℕ → List ℕ → ScriptFault → Type 0
IsUnread number line (BadCommand at) = (at ≡ number) × ¬ IsIdle line × ((command : Command) → ¬ Says line command)
IsUnread number line Memory = ⊤

-- the line came to its end within the limits, and was read
pub record Ends (old new : Reader) : Type 0 where
  pub within : old.lines < most_lines
  pub adds : Adds old.line.items old.commands.items new.commands.items
  pub count : new.lines ≡ old.lines + 1
  pub empty : new.line.items ≡ []

-- why a line is refused at its end
abbrev pub IsLineFault : Reader → ScriptFault → Type 0
IsLineFault reader (BadCommand number) = (number ≡ reader.lines + 1) × IsBad number reader.line.items
IsLineFault reader Memory = ⊤
