-- Scripts: the commands of a text's lines. (Own.)
use Rattle.std.specs.Prelude.{ℕ, ◌≡◌, ◌+◌, ◌<◌, ◌≤◌, ◌==◌, ◌⊎◌, List, [], ◌∷◌, ◌++◌, Result, Ok, Err, length, if◌then◌else◌, ⊤}
use Rattle.std.specs.List.{AllByRecursion}
use Rattle.grid_editor.specs.declared.command.Command.{Command}
use Rattle.grid_editor.specs.declared.script.ScriptFault.{ScriptFault}
use Rattle.grid_editor.specs.declared.script.ScriptFault.TheVariants.{BadCommand, Memory}
use Rattle.grid_editor.specs.Commands.{Says, IsIdle}

-- a byte put before the first line
abbrev pub onto_first : ℕ → List (List ℕ) → List (List ℕ)
onto_first byte [] = (byte ∷ []) ∷ []
onto_first byte (line ∷ lines) = (byte ∷ line) ∷ lines

-- the lines of a text: each ends with a line feed, which the last may lack
abbrev pub lines_of : List ℕ → List (List ℕ)
lines_of [] = []
lines_of (byte ∷ text) = if byte == 10 then [] ∷ lines_of text else onto_first byte (lines_of text)

-- a script has at most so many lines, those that do nothing among them
abbrev pub most_lines : ℕ
most_lines = 16000

-- the most bytes of a line, without its line feed
abbrev pub most_bytes : ℕ
most_bytes = 20000

-- the lines say these commands, in their order
abbrev pub SayAll : List (List ℕ) → List Command → Type 0
SayAll [] commands = commands ≡ []
SayAll (line ∷ lines) commands =
    (IsIdle line × SayAll lines commands)
    ⊎ ((command : Command) × (rest : List Command) × Says line command × (commands ≡ command ∷ rest) × SayAll lines rest)

abbrev pub IsShort : List ℕ → Type 0
IsShort line = length line ≤ most_bytes

-- the lines are within the limits, and say these commands
pub record AreGood (lines : List (List ℕ)) (commands : List Command) : Type 0 where
  pub few : length lines ≤ most_lines
  pub short : AllByRecursion IsShort lines
  pub say : SayAll lines commands

-- the line with this number is past a limit, or says no command where it should
abbrev pub IsBad : ℕ → List ℕ → Type 0
IsBad number line = (most_lines < number) ⊎ ((most_bytes < length line) ⊎ (¬ IsIdle line × ((command : Command) → ¬ Says line command)))

-- the first bad line of a text has this number
pub record IsFirstBad (text : List ℕ) (number : ℕ) : Type 0 where
  pub before : List (List ℕ)
  pub line : List ℕ
  pub after : List (List ℕ)
  pub commands : List Command
  pub lines : lines_of text ≡ before ++ line ∷ after
  pub good : AreGood before commands
  pub number_is : number ≡ length before + 1
  pub bad : IsBad number line

-- a text read as a script: the commands of its lines, or its first bad line
abbrev pub IsRead : List ℕ → Result (List Command) ScriptFault → Type 0
IsRead text (Ok commands) = AreGood (lines_of text) commands
IsRead text (Err (BadCommand number)) = IsFirstBad text number
IsRead text (Err Memory) = ⊤
