-- The text of a sheet: that of its grid, with each formula cell's value in its place. (Own.)
use Rattle.std.specs.Prelude.{ℕ, ◌+◌, ◌*◌, List, length, map, codes, if◌then◌else◌}
use Rattle.std.specs.List.{range_with_len}
use Rattle.std.specs.Fmt.{signed_decimal}
use Rattle.grid_sheet.specs.Rows.{Cells, Rows, row_at}
use Rattle.grid_formulas.specs.declared.value.Value.{Value}
use Rattle.grid_formulas.specs.declared.value.Value.TheVariants as value
use Rattle.grid_formulas.specs.Cells.{value_of}
use Rattle.grid_formulas.specs.Places.{text_at}
use Rattle.grid_formulas.specs.Reading.{is_formula}

-- how a formula's value is written
abbrev pub value_text : Value → List ℕ
value_text (value.Number number) = signed_decimal number
value_text value.NameFault = codes "#NAME"
value_text value.KindFault = codes "#VALUE"
value_text value.NumberFault = codes "#NUM"
value_text value.Cycle = codes "#CYCLE"
value_text _ = codes ""

-- what is shown of the cell at a place
abbrev pub shown_at : Rows → ℕ → List ℕ
shown_at rows place = if is_formula (text_at rows place) then value_text (value_of (text_at rows) place) else text_at rows place

abbrev pub shown_row : Rows → ℕ → Cells
shown_row rows row = map (λ column. shown_at rows (row * 1024 + column)) (range_with_len 0 (length (row_at rows (row + 1))))

-- the grid with each formula cell's value in its place
abbrev pub shown_rows : Rows → Rows
shown_rows rows = map (shown_row rows) (range_with_len 0 (length rows))
