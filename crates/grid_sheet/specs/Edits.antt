-- The edits of a grid, as functions on lists of rows. Each gives the rows after it, or why it is refused. (Own.)
use Rattle.std.specs.Prelude.{ℕ, ◌≡◌, ◌-◌, ◌+◌, Bool, List, [], ◌∷◌, ◌++◌, Result, Ok, Err, IsOk, length, map, insert, remove, replicate, slice_set, nat_lt, nat_le, ◌&&◌, if◌then◌else◌}
use Rattle.std.specs.List.{list_any}
use Rattle.grid_sheet.specs.declared.fault.GridFault.{GridFault}
use Rattle.grid_sheet.specs.declared.fault.GridFault.TheVariants as fault
use Rattle.grid_sheet.specs.Rows.{Cells, Rows, most_cells, most_rows, has_row, has_cell, is_column, row_at, with_row}

-- an edit may answer with this fault; want of memory comes last, where the edit has a result
abbrev pub IsRefusal : Result Rows GridFault → GridFault → Type 0
IsRefusal edit fault.OutOfGrid = edit ≡ Err fault.OutOfGrid
IsRefusal edit fault.TooMany = edit ≡ Err fault.TooMany
IsRefusal edit fault.Memory = IsOk edit

-- a row with at least so many cells, empty ones put at its end
abbrev pub extended : Cells → ℕ → Cells
extended cells n = cells ++ replicate (n - length cells) []

-- a row with this text in a column
abbrev pub with_cell : Cells → ℕ → List ℕ → Cells
with_cell cells column text = slice_set (extended cells column) (column - 1) text

abbrev pub after_set : Rows → ℕ → ℕ → List ℕ → Result Rows GridFault
after_set rows row column text =
    if has_row rows row && is_column column then Ok (with_row rows row (with_cell (row_at rows row) column text))
    else Err fault.OutOfGrid

-- a new row has one empty cell
abbrev pub empty_row : Cells
empty_row = [] ∷ []

abbrev pub after_insert_row : Rows → ℕ → Result Rows GridFault
after_insert_row rows row =
    if nat_lt 0 row && nat_le row (length rows + 1) then
    (if nat_lt (length rows) most_rows then Ok (insert rows (row - 1) empty_row) else Err fault.TooMany)
    else Err fault.OutOfGrid

abbrev pub after_delete_row : Rows → ℕ → Result Rows GridFault
after_delete_row rows row = if has_row rows row then Ok (remove rows (row - 1)) else Err fault.OutOfGrid

-- the row ends just before this column, or behind it
abbrev pub reaches : ℕ → Cells → Bool
reaches column cells = nat_le (column - 1) (length cells)

-- an empty cell in the column, where the row reaches it
abbrev pub with_column : ℕ → Cells → Cells
with_column column cells = if reaches column cells then insert cells (column - 1) [] else cells

-- the row reaches the column, and has no room for one more cell
abbrev pub is_full : ℕ → Cells → Bool
is_full column cells = reaches column cells && nat_le most_cells (length cells)

abbrev pub after_insert_column : Rows → ℕ → Result Rows GridFault
after_insert_column rows column =
    if is_column column then
    (if list_any (is_full column) rows then Err fault.TooMany else Ok (map (with_column column) rows))
    else Err fault.OutOfGrid

-- a row left without cells gets one empty cell
abbrev pub or_empty_row : Cells → Cells
or_empty_row [] = empty_row
or_empty_row (cell ∷ cells) = cell ∷ cells

-- without the cell in the column, where the row has it
abbrev pub without_column : ℕ → Cells → Cells
without_column column cells = if has_cell cells column then or_empty_row (remove cells (column - 1)) else cells

abbrev pub after_delete_column : Rows → ℕ → Result Rows GridFault
after_delete_column rows column =
    if list_any (λ cells. has_cell cells column) rows then Ok (map (without_column column) rows) else Err fault.OutOfGrid

abbrev pub after_insert_cell : Rows → ℕ → ℕ → List ℕ → Result Rows GridFault
after_insert_cell rows row column text =
    if has_row rows row && (nat_lt 0 column && reaches column (row_at rows row)) then
    (if nat_lt (length (row_at rows row)) most_cells then Ok (with_row rows row (insert (row_at rows row) (column - 1) text))
    else Err fault.TooMany)
    else Err fault.OutOfGrid

abbrev pub after_delete_cell : Rows → ℕ → ℕ → Result Rows GridFault
after_delete_cell rows row column =
    if has_row rows row && (has_cell (row_at rows row) column && nat_lt 1 (length (row_at rows row))) then
    Ok (with_row rows row (remove (row_at rows row) (column - 1)))
    else Err fault.OutOfGrid
