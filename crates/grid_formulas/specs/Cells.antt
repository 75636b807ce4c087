-- The values of all cells. (Own.)
use Rattle.std.specs.Prelude.{ℕ, zero, suc, ◌+◌, Bool, List, [], Option, Some, None, length, nat_lt, nat_le, ◌<◌, ⊤, ◌&&◌, if◌then◌else◌}
use Rattle.std.specs.List.{list_any}
use Rattle.grid_sheet.specs.Rows.{Rows, is_column, most_rows}
use Rattle.grid_formulas.specs.declared.fault.SheetFault.{SheetFault}
use Rattle.grid_formulas.specs.declared.fault.SheetFault.TheVariants as fault
use Rattle.grid_formulas.specs.declared.formula.Step.{Step}
use Rattle.grid_formulas.specs.declared.value.Value.{Value}
use Rattle.grid_formulas.specs.declared.value.Value.TheVariants as value
use Rattle.grid_formulas.specs.Numbers.{plain_value}
use Rattle.grid_formulas.specs.Places.{place_of, reads_of, text_at}
use Rattle.grid_formulas.specs.Reading.{formula_of, is_formula}
use Rattle.grid_formulas.specs.Values.{value_of_formula}

-- a grid has places below this: 100,000 rows of 1,024 columns
unfoldable pub most_places : ℕ
most_places = 102400000

-- a number for each place below a bound, added up
unfoldable pub sum_below : (ℕ → ℕ) → ℕ → ℕ
sum_below f zero = 0
sum_below f (suc place) = sum_below f place + f place

abbrev pub reads_if : Option (List Step) → List ℕ
reads_if None = []
reads_if (Some steps) = reads_of steps

-- the places that a cell reads, each as often as its formula names it
unfoldable pub reads : List ℕ → List ℕ
reads text = reads_if (formula_of text)

-- how many cells the formulas together name
abbrev pub link_count : (ℕ → List ℕ) → ℕ
link_count text = sum_below (λ place. length (reads (text place))) most_places

-- how many cells are formulas
abbrev pub formula_count : (ℕ → List ℕ) → ℕ
formula_count text = sum_below (λ place. if is_formula (text place) then 1 else 0) most_places

-- a walk of so many steps, from cells to cells that they read, goes from here through formula cells alone
unfoldable pub has_walk : (ℕ → List ℕ) → ℕ → ℕ → Bool
has_walk text zero place = is_formula (text place)
has_walk text (suc steps) place = is_formula (text place) && list_any (has_walk text steps) (reads (text place))

-- the value of a cell from which no walk has so many steps
unfoldable pub value_within : (ℕ → List ℕ) → ℕ → ℕ → Value
value_within text zero place = plain_value (text place)
value_within text (suc steps) place =
    if is_formula (text place) then value_of_formula (value_within text steps) (formula_of (text place)) else plain_value (text place)

-- the value of a cell: a walk of as many steps as there are formulas comes back to itself
unfoldable pub value_of : (ℕ → List ℕ) → ℕ → Value
value_of text place =
    if has_walk text (formula_count text) place then value.Cycle else value_within text (formula_count text) place

-- the value of the cell at a row and a column, which is empty where no grid has a cell
abbrev pub cell_value : Rows → ℕ → ℕ → Value
cell_value rows row column =
    if (nat_lt 0 row && nat_le row most_rows) && is_column column then value_of (text_at rows) (place_of row column) else value.Empty

-- why a grid gets no sheet
abbrev pub IsSheetFault : Rows → SheetFault → Type 0
IsSheetFault rows fault.TooManyLinks = 1000000 < link_count (text_at rows)
IsSheetFault rows fault.Memory = ⊤
