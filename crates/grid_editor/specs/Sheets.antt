-- A sheet whose edits can be undone. (Own.)
use Rattle.std.specs.Prelude.{ℕ, ◌≡◌, Bool, true, false, List, [], ◌∷◌, Result, Ok, Err, take, length, ⊤}
use Rattle.circular_buffer.specs.Buffer.{Buffer}
use Rattle.grid_sheet.specs.declared.fault.GridFault.{GridFault}
use Rattle.grid_sheet.specs.declared.fault.GridFault.TheVariants.{OutOfGrid}
use Rattle.grid_sheet.specs.declared.undoing.Undo.{Undo}
use Rattle.grid_sheet.specs.Rows.{Rows, IsGrid}
use Rattle.grid_sheet.specs.Edits.{after_set, after_insert_row, after_delete_row, after_insert_column, after_delete_column}
use Rattle.grid_sheet.specs.Undoing.{Fits, undone}
use Rattle.grid_editor.specs.declared.command.Command.{Command}
use Rattle.grid_editor.specs.declared.command.Command.TheVariants.{Set, InsRow, DelRow, InsCol, DelCol}

-- the rows, and what they were before each edit that can be undone, the latest first
pub record Edited : Type 0 where
  pub rows : Rows
  pub past : List Rows

-- so many edits can be undone
abbrev pub most_undos : ℕ
most_undos = 64

-- what the rows were before each edit, by what undoes it
abbrev pub past_of : Rows → List Undo → List Rows
past_of rows [] = []
past_of rows (undo ∷ undos) = undone rows undo ∷ past_of (undone rows undo) undos

-- each edit can be undone once those after it are
abbrev pub CanUndo : Rows → List Undo → Type 0
CanUndo rows [] = ⊤
CanUndo rows (undo ∷ undos) = Fits rows undo × IsGrid (undone rows undo) × CanUndo (undone rows undo) undos

abbrev pub edited_of : Rows → Buffer Undo → Edited
edited_of rows undos = record { rows = rows; past = past_of rows undos.items }

-- the rows after a command that edits them, or why it is refused
abbrev pub after_edit : Rows → Command → Result Rows GridFault
after_edit rows (Set row column text) = after_set rows row column text
after_edit rows (InsRow row) = after_insert_row rows row
after_edit rows (DelRow row) = after_delete_row rows row
after_edit rows (InsCol column) = after_insert_column rows column
after_edit rows (DelCol column) = after_delete_column rows column
after_edit rows command = Err OutOfGrid

-- The edit was made. What the rows were is kept, and of 65 such only the latest 64.
pub record IsEdited (edit : Result Rows GridFault) (old new : Edited) : Type 0 where
  pub edit_is : edit ≡ Ok new.rows
  pub past : new.past ≡ take most_undos (old.rows ∷ old.past)

-- the last edit was undone, or there was none
abbrev pub IsUndone : Edited → Edited → Bool → Type 0
IsUndone old new true = old.past ≡ new.rows ∷ new.past
IsUndone old new false = (old.past ≡ []) × (new ≡ old)
