-- Cells by number, and the cells that a formula names. (Own: a grid has at most 1,024 columns.)
use Rattle.std.specs.Prelude.{ℕ, Bool, ◌+◌, ◌*◌, ◌-◌, ◌/◌, ◌%◌, List, [], unwrap_or, map}
use Rattle.std.specs.BTreeMap.{is_at}
use Rattle.std.specs.List.{range_with_len, flat_map, list_any}
use Rattle.std.specs.Ordering.{nat_cmp}
use Rattle.grid_sheet.specs.Rows.{Rows, cell_at}
use Rattle.grid_formulas.specs.declared.formula.Span.{Span}
use Rattle.grid_formulas.specs.declared.formula.Step.{Step}
use Rattle.grid_formulas.specs.declared.formula.Step.TheVariants as step

-- the place of the cell at a row and a column, counted from 0 along the rows
abbrev pub place_of : ℕ → ℕ → ℕ
place_of row column = (row - 1) * 1024 + (column - 1)

-- the bytes of the cell at a place; none where the cell is not there
abbrev pub text_at : Rows → ℕ → List ℕ
text_at rows place = unwrap_or (cell_at rows (place / 1024 + 1) (place % 1024 + 1)) []

-- the place of the cell of a span with this number, counted from 0 along the rows
abbrev pub nth_of : Span → ℕ → ℕ
nth_of span n = span.first + 1024 * (n / (span.last_column + 1)) + n % (span.last_column + 1)

-- the places of a span, by row and column
abbrev pub places_of : Span → List ℕ
places_of span = map (nth_of span) (range_with_len 0 span.size)

-- the cells that a step names
abbrev pub cells_named : Step → Span
cells_named (step.Cell place) = record { first = place; last_column = 0; size = 1 }
cells_named (step.Sum span) = span
cells_named _ = record { first = 0; last_column = 0; size = 0 }

-- the places that a formula names, each as often as it is named
abbrev pub reads_of : List Step → List ℕ
reads_of steps = flat_map (λ s. places_of (cells_named s)) steps

-- the place is in the list
abbrev pub has : List ℕ → ℕ → Bool
has places place = list_any (is_at (nat_cmp place)) places
