-- What undoes an edit. (Own.)
use Rattle.std.specs.Prelude.{ℕ, ◌≡◌, ◌-◌, ◌<◌, ◌≤◌, IsTrue, List, [], ◌∷◌, Result, Ok, length, map, insert, remove, slice_index_or, if◌then◌else◌, ⊤, ◌==◌}
use Rattle.csv.specs.Records.{fields_of}
use Rattle.grid_sheet.specs.declared.fault.GridFault.{GridFault}
use Rattle.grid_sheet.specs.declared.undoing.Had.{Had}
use Rattle.grid_sheet.specs.declared.undoing.Had.TheVariants.{NoCell, OnlyCell, OneOfCells}
use Rattle.grid_sheet.specs.declared.undoing.Column.{Column}
use Rattle.grid_sheet.specs.declared.undoing.Undo.{Undo}
use Rattle.grid_sheet.specs.declared.undoing.Undo.TheVariants.{PutRow, TakeRow, InsertRow, TakeColumn, PutColumn}
use Rattle.grid_sheet.specs.Rows.{Cells, Rows, has_cell, has_row, with_row}
use Rattle.grid_sheet.specs.Edits.{reaches, without_column}

-- what a row has in a column
abbrev pub had_of : ℕ → Cells → Had
had_of column cells =
    if has_cell cells column then (if length cells == 1 then OnlyCell else OneOfCells) else NoCell

-- the text of a row in a column, empty where it has none
abbrev pub text_in : ℕ → Cells → List ℕ
text_in column cells = if has_cell cells column then slice_index_or cells (column - 1) [] else []

-- a row with the cell again that was taken out of the column
abbrev pub put_back : ℕ → Had → List ℕ → Cells → Cells
put_back column NoCell text cells = cells
put_back column OnlyCell text cells = text ∷ []
put_back column OneOfCells text cells = if reaches column cells then insert cells (column - 1) text else cells

-- the same of rows, each with what it had and the text
abbrev pub all_put_back : ℕ → List Had → List (List ℕ) → Rows → Rows
all_put_back column (had ∷ hads) (text ∷ texts) (cells ∷ rows) = put_back column had text cells ∷ all_put_back column hads texts rows
all_put_back column [] texts rows = []
all_put_back column (had ∷ hads) [] rows = []
all_put_back column (had ∷ hads) (text ∷ texts) [] = []

-- the rows once the edit is undone
abbrev pub undone : Rows → Undo → Rows
undone rows (PutRow row cells) = with_row rows row (fields_of cells)
undone rows (TakeRow row) = remove rows (row - 1)
undone rows (InsertRow row cells) = insert rows (row - 1) (fields_of cells)
undone rows (TakeColumn column) = map (without_column column) rows
undone rows (PutColumn column kept) = all_put_back column kept.had.items (fields_of kept.texts) rows

-- the undo is one of an edit that may have made these rows
abbrev pub Fits : Rows → Undo → Type 0
Fits rows (PutRow row cells) = IsTrue (has_row rows row)
Fits rows (TakeRow row) = IsTrue (has_row rows row)
Fits rows (InsertRow row cells) = (0 < row) × (row - 1 ≤ length rows)
Fits rows (TakeColumn column) = ⊤
Fits rows (PutColumn column kept) = (0 < column) × (length kept.had.items ≡ length rows) × (length (fields_of kept.texts) ≡ length rows)

-- The edit made the new rows of the old, and the undo makes the old of the new.
pub record Undoes (edit : Result Rows GridFault) (old new : Rows) (undo : Undo) : Type 0 where
  pub edited : edit ≡ Ok new
  pub fits : Fits new undo
  pub back : undone new undo ≡ old
