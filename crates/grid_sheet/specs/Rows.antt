-- What a grid is, as a list of rows of cells. (Own: a sheet of bytes, with limits that a spreadsheet program keeps too.)
use Rattle.std.specs.Prelude.{ℕ, ◌-◌, ◌<◌, ◌≤◌, Bool, List, [], Option, Some, None, All, length, map, nat_lt, nat_le, slice_index_or, slice_set, ◌&&◌, if◌then◌else◌}
use Rattle.csv.specs.Records.{Row, fields_of}

-- a cell is a list of bytes, and a row a list of cells
abbrev pub Cells : Type 0
Cells = List (List ℕ)

abbrev pub Rows : Type 0
Rows = List Cells

-- the most rows of a grid
abbrev pub most_rows : ℕ
most_rows = 100000

-- the most cells of a row
abbrev pub most_cells : ℕ
most_cells = 1024

-- a row has 1 to 1,024 cells
pub record IsRow (cells : Cells) : Type 0 where
  pub not_empty : 0 < length cells
  pub short : length cells ≤ most_cells

-- a grid has at most 100,000 rows
pub record IsGrid (rows : Rows) : Type 0 where
  pub few : length rows ≤ most_rows
  pub each : All IsRow rows

-- the row with this number is there; the first is number 1
abbrev pub has_row : Rows → ℕ → Bool
has_row rows row = nat_lt 0 row && nat_le row (length rows)

-- the row with this number
abbrev pub row_at : Rows → ℕ → Cells
row_at rows row = slice_index_or rows (row - 1) []

-- the rows with other cells in this one
abbrev pub with_row : Rows → ℕ → Cells → Rows
with_row rows row cells = slice_set rows (row - 1) cells

-- a row may have a cell in this column; the first is number 1
abbrev pub is_column : ℕ → Bool
is_column column = nat_lt 0 column && nat_le column most_cells

-- the row has a cell in this column
abbrev pub has_cell : Cells → ℕ → Bool
has_cell cells column = nat_lt 0 column && nat_le column (length cells)

-- the cell at a row and a column
abbrev pub cell_at : Rows → ℕ → ℕ → Option (List ℕ)
cell_at rows row column =
    if has_row rows row && has_cell (row_at rows row) column then Some (slice_index_or (row_at rows row) (column - 1) []) else None

-- the rows that records hold
abbrev pub rows_of : List Row → Rows
rows_of records = map fields_of records
