-- Which cells a change gives another value. (Own.)
use Rattle.std.specs.Prelude.{ℕ, ◌+◌, ◌/◌, ◌%◌, Bool, true, false, List, map, not}
use Rattle.std.specs.List.{filter, range_with_len}
use Rattle.std.specs.Ordering.{int_eq}
use Rattle.grid_sheet.specs.Rows.{Rows}
use Rattle.grid_formulas.specs.declared.value.Value.{Value}
use Rattle.grid_formulas.specs.declared.value.Value.TheVariants as value
use Rattle.grid_formulas.specs.Cells.{most_places, value_of}
use Rattle.grid_formulas.specs.Places.{text_at}

-- values as they are compared: all texts are one
abbrev pub same_value : Value → Value → Bool
same_value value.Empty value.Empty = true
same_value value.Text value.Text = true
same_value (value.Number a) (value.Number b) = int_eq a b
same_value value.NameFault value.NameFault = true
same_value value.KindFault value.KindFault = true
same_value value.NumberFault value.NumberFault = true
same_value value.Cycle value.Cycle = true
same_value _ _ = false

-- the place has another value in the second grid than in the first
abbrev pub is_changed : Rows → Rows → ℕ → Bool
is_changed old new place = not (same_value (value_of (text_at old) place) (value_of (text_at new) place))

-- the row and column of a place
abbrev pub cell_of : ℕ → ℕ × ℕ
cell_of place = (place / 1024 + 1, place % 1024 + 1)

-- the cells whose value is another, by row and column
abbrev pub changed_cells : Rows → Rows → List (ℕ × ℕ)
changed_cells old new = map cell_of (filter (is_changed old new) (range_with_len 0 most_places))
