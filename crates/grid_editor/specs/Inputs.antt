-- A script that is the whole of an input.
use Rattle.std.specs.Prelude.{ℕ, ◌≡◌, ◌<◌, ◌≤◌, List, [], ◌∷◌, ◌++◌, Option, Result, Ok, Err, length, ⊤}
use Rattle.outside.specs.Stream.{Are}
use Rattle.line_text.specs.declared.input.InputFault.{InputFault}
use Rattle.line_text.specs.declared.input.InputFault.TheVariants.{Read, Text}
use Rattle.grid_editor.specs.declared.command.Command.{Command}
use Rattle.grid_editor.specs.declared.script.ScriptFault.{ScriptFault}
use Rattle.grid_editor.specs.declared.script.ScriptFault.TheVariants.{BadCommand, Memory}
use Rattle.grid_editor.specs.Scripts.{AreGood, IsFirstBad, IsShort, lines_of, most_lines}

-- the bytes that were left are the lines of these commands
pub record IsScript (left : Option (List ℕ)) (commands : List Command) : Type 0 where
  pub text : List ℕ
  pub text_is : Are left text
  pub good : AreGood (lines_of text) commands

-- the bytes that were left have their first bad line here
pub record IsBadScript (left : Option (List ℕ)) (number : ℕ) : Type 0 where
  pub text : List ℕ
  pub text_is : Are left text
  pub bad : IsFirstBad text number

-- an input read as a script
abbrev pub IsInputRead : Option (List ℕ) → Result (List Command) (InputFault ScriptFault) → Type 0
IsInputRead left (Ok commands) = IsScript left commands
IsInputRead left (Err (Text (BadCommand number))) = IsBadScript left number
IsInputRead left (Err (Text Memory)) = ⊤
IsInputRead left (Err Read) = ⊤

-- Whether these bytes are the front of a script rests on what follows: with a line feed behind them, all their lines but the last
-- are good, and the last, which is not whole yet, is past no limit.
pub record IsUndecided (text : List ℕ) : Type 0 where
  pub whole : List (List ℕ)
  pub part : List ℕ
  pub lines : lines_of (text ++ 10 ∷ []) ≡ whole ++ part ∷ []
  pub commands : List Command
  pub good : AreGood whole commands
  pub short : IsShort part
  pub room : 0 < length part → length whole < most_lines

-- a text that begins so has its first bad line here, however it goes on
abbrev pub IsRefused : List ℕ → ScriptFault → Type 0
IsRefused text (BadCommand number) = (more : List ℕ) → IsFirstBad (text ++ more) number
IsRefused text Memory = ⊤
