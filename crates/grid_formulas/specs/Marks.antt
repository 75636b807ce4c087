-- Which cells a change may touch: the changed cell, those that read it, those that read one of them, and so on.
use Rattle.std.specs.Prelude.{ℕ, ◌≡◌, Bool, true, List, Option, Some, length, slice_index, ◌<◌, ◌≤◌}
use Rattle.std.specs.BTreeSet.{BTreeSet}
use Rattle.grid_formulas.specs.Cells.{reads_if}
use Rattle.grid_formulas.specs.Readers.{above, is_kept}
use Rattle.grid_formulas.specs.Places.{has}
use Rattle.grid_formulas.specs.Sheets.{formula_in, is_in}
use Rattle.grid_formulas.specs.declared.cells.Node.{Node}
use Rattle.grid_formulas.specs.declared.value.Value.{Value}
use Rattle.grid_formulas.specs.declared.value.Value.TheVariants as value

-- the formula that is known of a cell names the place
abbrev pub reads_at : (ℕ → Option Node) → ℕ → ℕ → Bool
reads_at nodes reader place = has (reads_if (formula_in (nodes reader))) place

-- the marked cells have Cycle, are in the list, and are cells of a grid
pub record AreMarked (after : ℕ → Option Value) (places : List ℕ) : Type 0 where
  pub cycles : (q : ℕ) → is_in after q ≡ true → after q ≡ Some value.Cycle
  pub listed : (q : ℕ) → is_in after q ≡ true → has places q ≡ true
  pub small : (k : ℕ) → k < length places → slice_index places k < 102400000

-- more cells are marked, behind the others of the list
pub record MarksMore (before : ℕ → Option Value) (places : List ℕ) (after : ℕ → Option Value) (more : List ℕ) : Type 0 where
  pub marked : AreMarked after more
  pub stays : (q : ℕ) → is_in before q ≡ true → is_in after q ≡ true
  pub longer : length places ≤ length more
  pub same : (k : ℕ) → k < length places → slice_index more k ≡ slice_index places k

-- of these readers, each that reads the place is marked
abbrev pub MarksReaders : (ℕ → Option Node) → (ℕ → Bool) → ℕ → (ℕ → Option Value) → Type 0
MarksReaders nodes readers place after =
    (p : ℕ) → readers p ≡ true → reads_at nodes p place ≡ true → p < 102400000 → is_in after p ≡ true

-- each reader of the place that is kept above it is marked
abbrev pub MarksAllReaders : (ℕ → Option Node) → (ℕ → Option (BTreeSet ℕ)) → ℕ → (ℕ → Option Value) → Type 0
MarksAllReaders nodes readers place after = (level : ℕ) → MarksReaders nodes (is_kept readers (above level place)) place after

-- each reader of a marked cell is marked
abbrev pub IsClosed : (ℕ → Option Node) → (ℕ → Option (BTreeSet ℕ)) → (ℕ → Option Value) → Type 0
IsClosed nodes readers after = (q : ℕ) → is_in after q ≡ true → MarksAllReaders nodes readers q after

-- the formula that is known of a cell is kept above each place that it names
abbrev pub IsFound : (ℕ → Option Node) → (ℕ → Option (BTreeSet ℕ)) → ℕ → Type 0
IsFound nodes readers reader = (q : ℕ) → reads_at nodes reader q ≡ true → (level : ℕ) × (is_kept readers (above level q) reader ≡ true)
