-- What a sheet keeps of its cells, and facts of single cells from which the values of all follow.
use Rattle.std.specs.Prelude.{ℕ, ◌≡◌, Bool, true, false, List, Option, Some, None, option_map, unwrap_or, IsSome, is_some, length, slice_index, ◌<◌, ◌≤◌, ⊤, ◌&&◌, if◌then◌else◌}
use Rattle.std.specs.BTreeSet.{BTreeSet}
use Rattle.std.specs.List.{list_any}
use Rattle.std.specs.Option.{option_or}
use Rattle.grid_formulas.specs.declared.cells.Node.{Node}
use Rattle.grid_formulas.specs.declared.fault.SheetFault.{SheetFault}
use Rattle.grid_formulas.specs.declared.fault.SheetFault.TheVariants as fault
use Rattle.grid_formulas.specs.declared.formula.Step.{Step}
use Rattle.grid_formulas.specs.declared.value.Value.{Value}
use Rattle.grid_formulas.specs.declared.value.Value.TheVariants as value
use Rattle.grid_formulas.specs.Cells.{formula_count, has_walk, link_count, reads, sum_below}
use Rattle.grid_sheet.specs.Rows.{IsGrid, Rows}
use Rattle.grid_formulas.specs.Places.{has, text_at}
use Rattle.grid_formulas.specs.Numbers.{plain_value}
use Rattle.grid_formulas.specs.Readers.{IsIndexed}
use Rattle.grid_formulas.specs.Reading.{formula_of, is_formula}
use Rattle.grid_formulas.specs.Values.{value_of_formula}

abbrev pub is_cycle : Value → Bool
is_cycle value.Cycle = true
is_cycle _ = false

-- one of these places has Cycle
abbrev pub any_cycle : (ℕ → Value) → List ℕ → Bool
any_cycle values places = list_any (λ place. is_cycle (values place)) places

-- the value of a cell, where those of the formula cells are kept
abbrev pub stored : (ℕ → List ℕ) → (ℕ → Option Value) → ℕ → Value
stored text kept place = if is_formula (text place) then unwrap_or (kept place) value.Cycle else plain_value (text place)

abbrev pub value_in : Option Node → Option Value
value_in node = option_map (λ n. n.value) node

-- the values of formula cells
abbrev pub kept_values : (ℕ → Option Node) → ℕ → Option Value
kept_values nodes place = value_in (nodes place)

-- the values at these places, and elsewhere the others
abbrev pub over : (ℕ → Option Value) → (ℕ → Option Value) → ℕ → Option Value
over after kept place = option_or (after place) (kept place)

-- a formula cell without a value has Cycle
abbrev pub kept_value : (ℕ → Option Node) → ℕ → Value
kept_value nodes place = unwrap_or (kept_values nodes place) value.Cycle

-- the values of a grid's cells
abbrev pub values_over : Rows → (ℕ → Option Node) → (ℕ → Option Value) → ℕ → Value
values_over rows nodes after = stored (text_at rows) (over after (kept_values nodes))

-- a formula cell's value follows from those that it reads, none of which is Cycle
pub record IsSettled (text : ℕ → List ℕ) (values : ℕ → Value) (place : ℕ) : Type 0 where
  pub ends : has_walk text (formula_count text) place ≡ false
  pub none : any_cycle values (reads (text place)) ≡ false
  pub follows : values place ≡ value_of_formula values (formula_of (text place))

-- each cell that is no formula has its plain value, and each formula cell is settled or has Cycle
pub record AreSettled (text : ℕ → List ℕ) (values : ℕ → Value) : Type 0 where
  pub plain : (place : ℕ) → is_formula (text place) ≡ false → values place ≡ plain_value (text place)
  pub settled : (place : ℕ) → is_formula (text place) ≡ true → is_cycle (values place) ≡ false → IsSettled text values place

-- each formula cell with Cycle reads another
abbrev pub AreStuck : (ℕ → List ℕ) → (ℕ → Value) → Type 0
AreStuck text values =
    (place : ℕ) → is_formula (text place) ≡ true → is_cycle (values place) ≡ true → any_cycle values (reads (text place)) ≡ true

abbrev pub formula_in : Option Node → Option (List Step)
formula_in None = None
formula_in (Some node) = option_map (λ steps. steps.items) node.formula

-- each formula cell is among the nodes, with its formula
pub record KnowsFormulas (text : ℕ → List ℕ) (nodes : ℕ → Option Node) : Type 0 where
  pub there : (place : ℕ) → is_formula (text place) ≡ true → IsSome (nodes place)
  pub known : (place : ℕ) → is_formula (text place) ≡ true → formula_in (nodes place) ≡ formula_of (text place)

-- the most cells that the formulas together may name
abbrev pub most_links : ℕ
most_links = 1000000

-- the formula cells before a place are among the nodes, and together they name so many cells
pub record Gathers (text : ℕ → List ℕ) (nodes : ℕ → Option Node) (bound count : ℕ) : Type 0 where
  pub there : (place : ℕ) → place < bound → is_formula (text place) ≡ true → IsSome (nodes place)
  pub known : (place : ℕ) → place < bound → is_formula (text place) ≡ true → formula_in (nodes place) ≡ formula_of (text place)
  pub counts : count ≡ sum_below (λ place. length (reads (text place))) bound
  pub few : count ≤ most_links

-- what gathering a cell, or many, may be refused for
abbrev pub IsGatherFault : (ℕ → List ℕ) → ℕ → SheetFault → Type 0
IsGatherFault text bound fault.TooManyLinks = most_links < sum_below (λ place. length (reads (text place))) bound
IsGatherFault text bound fault.Memory = ⊤

-- the cell is one of those looked at anew
abbrev pub is_in : (ℕ → Option Value) → ℕ → Bool
is_in after place = is_some (after place)

-- where a cell has Cycle, it reads another that has
abbrev pub IsStuckAt : (ℕ → List ℕ) → (ℕ → Value) → ℕ → Type 0
IsStuckAt text values place = is_formula (text place) ≡ true → is_cycle (values place) ≡ true → any_cycle values (reads (text place)) ≡ true

-- the cell is looked at anew and has Cycle still
abbrev pub waits : Option Value → Bool
waits None = false
waits (Some v) = is_cycle v

-- the cell is a formula that is looked at anew and has Cycle still
abbrev pub has_cycle : (ℕ → List ℕ) → (ℕ → Option Value) → ℕ → Bool
has_cycle text after place = is_formula (text place) && waits (after place)

-- what one look at a cell does: it settles the cell, or changes nothing; the cell stays if it reads one with Cycle
pub record LooksAt (rows : Rows) (nodes : ℕ → Option Node) (before after : ℕ → Option Value) (stays : Bool) (place : ℕ) : Type 0 where
  pub keys : (q : ℕ) → is_in after q ≡ is_in before q
  pub kept : AreSettled (text_at rows) (values_over rows nodes before) → AreSettled (text_at rows) (values_over rows nodes after)
  pub quiet : (q : ℕ) → has_cycle (text_at rows) before q ≡ false → has_cycle (text_at rows) after q ≡ false
  pub done : stays ≡ false → has_cycle (text_at rows) after place ≡ false
  pub idle : stays ≡ true → after ≡ before
  pub stuck : stays ≡ true → IsStuckAt (text_at rows) (values_over rows nodes before) place

-- what a look at the first n cells of a list does, and which are left with Cycle
pub record Sweeps (rows : Rows) (nodes : ℕ → Option Node) (order : List ℕ) (n : ℕ) (before after : ℕ → Option Value) (left : List ℕ) : Type 0 where
  pub keys : (q : ℕ) → is_in after q ≡ is_in before q
  pub kept : AreSettled (text_at rows) (values_over rows nodes before) → AreSettled (text_at rows) (values_over rows nodes after)
  pub quiet : (q : ℕ) → has_cycle (text_at rows) before q ≡ false → has_cycle (text_at rows) after q ≡ false
  pub fewer : length left ≤ n
  pub among : (k : ℕ) → k < n → has_cycle (text_at rows) after (slice_index order k) ≡ true → has left (slice_index order k) ≡ true
  pub idle : length left ≡ n → after ≡ before
  pub stuck : length left ≡ n → (q : ℕ) → has left q ≡ true → IsStuckAt (text_at rows) (values_over rows nodes before) q

-- what looking at the cells of a list does until nothing moves
pub record Rests (rows : Rows) (nodes : ℕ → Option Node) (order : List ℕ) (before after : ℕ → Option Value) : Type 0 where
  pub keys : (q : ℕ) → is_in after q ≡ is_in before q
  pub kept : AreSettled (text_at rows) (values_over rows nodes before) → AreSettled (text_at rows) (values_over rows nodes after)
  pub stuck : (k : ℕ) → k < length order → has_cycle (text_at rows) after (slice_index order k) ≡ true → IsStuckAt (text_at rows) (values_over rows nodes after) (slice_index order k)

-- a sheet is of a grid with few enough links, knows its formulas and who reads a cell, and all its values are settled or stuck
pub record IsSheet (rows : Rows) (nodes : ℕ → Option Node) (readers : ℕ → Option (BTreeSet ℕ)) (links : ℕ) : Type 0 where
  pub grid : IsGrid rows
  pub counts : links ≡ link_count (text_at rows)
  pub few : link_count (text_at rows) ≤ most_links
  pub known : KnowsFormulas (text_at rows) nodes
  pub indexed : IsIndexed (text_at rows) readers
  pub settled : AreSettled (text_at rows) (stored (text_at rows) (kept_values nodes))
  pub stuck : AreStuck (text_at rows) (stored (text_at rows) (kept_values nodes))

-- each of these places has Cycle at first
abbrev pub StartsOver : List ℕ → (ℕ → Option Value) → Type 0
StartsOver places after = (k : ℕ) → k < length places → after (slice_index places k) ≡ Some value.Cycle
