-- The commands of a script, each by its line. (Own.)
use Rattle.std.specs.Prelude.{ℕ, ◌≡◌, ◌<◌, ◌^◌, List, [], ◌∷◌, ◌++◌, codes, decimal, ⊤}
use Rattle.wopi_text.specs.FileName.{IsFileName}
use Rattle.grid_editor.specs.declared.command.Command.{Command}
use Rattle.grid_editor.specs.declared.command.Command.TheVariants.{Open, Set, InsRow, DelRow, InsCol, DelCol, Show, Values, Undo, Save, SaveAs, Refresh, Close}

-- the line of a command: its words, with one space between them
abbrev pub command_text : Command → List ℕ
command_text Open = codes "open"
command_text (Set row column text) = codes "set " ++ (decimal row ++ (32 ∷ (decimal column ++ (32 ∷ text))))
command_text (InsRow row) = codes "insrow " ++ decimal row
command_text (DelRow row) = codes "delrow " ++ decimal row
command_text (InsCol column) = codes "inscol " ++ decimal column
command_text (DelCol column) = codes "delcol " ++ decimal column
command_text Show = codes "show"
command_text Values = codes "values"
command_text Undo = codes "undo"
command_text Save = codes "save"
command_text (SaveAs name) = codes "saveas " ++ name
command_text Refresh = codes "refresh"
command_text Close = codes "close"

-- its numbers and its name have their forms
abbrev pub IsFormed : Command → Type 0
IsFormed (Set row column text) = (row < 2 ^ 64) × (column < 2 ^ 64)
IsFormed (InsRow row) = row < 2 ^ 64
IsFormed (DelRow row) = row < 2 ^ 64
IsFormed (InsCol column) = column < 2 ^ 64
IsFormed (DelCol column) = column < 2 ^ 64
IsFormed (SaveAs name) = IsFileName name
IsFormed command = ⊤

-- the line says this command
pub record Says (line : List ℕ) (command : Command) : Type 0 where
  pub formed : IsFormed command
  pub text : line ≡ command_text command

-- a line that does nothing: an empty one, or one that begins with `#`
abbrev pub IsIdle : List ℕ → Type 0
IsIdle [] = ⊤
IsIdle (first ∷ rest) = first ≡ 35
