-- What a change of one cell needs and does.
use Rattle.std.specs.Prelude.{ℕ, ◌≡◌, ◌≢◌, Bool, true, Option, Some, None, ◌<◌, not}
use Rattle.std.specs.BTreeSet.{BTreeSet}
use Rattle.grid_sheet.specs.Rows.{IsGrid, Rows}
use Rattle.grid_formulas.specs.Changes.{same_value}
use Rattle.grid_formulas.specs.Places.{text_at}
use Rattle.grid_formulas.specs.Readers.{IsIndexed}
use Rattle.grid_formulas.specs.Sheets.{AreSettled, AreStuck, KnowsFormulas, is_in, kept_values, stored, values_over}
use Rattle.grid_formulas.specs.declared.cells.Node.{Node}
use Rattle.grid_formulas.specs.declared.value.Value.{Value}

-- the rows differ at one place alone, whose new formula is known; values and index are still those of the old rows
pub record IsTurning (old new : Rows) (nodes : ℕ → Option Node) (readers : ℕ → Option (BTreeSet ℕ)) (place : ℕ) : Type 0 where
  pub before : IsGrid old
  pub grid : IsGrid new
  pub small : place < 102400000
  pub same : (q : ℕ) → q ≢ place → text_at new q ≡ text_at old q
  pub known : KnowsFormulas (text_at new) nodes
  pub indexed : IsIndexed (text_at old) readers
  pub settled : AreSettled (text_at old) (stored (text_at old) (kept_values nodes))
  pub stuck : AreStuck (text_at old) (stored (text_at old) (kept_values nodes))

-- the values are those of the new rows, and the cells that were looked at anew are cells of a grid
pub record IsTurned (new : Rows) (nodes : ℕ → Option Node) (place : ℕ) (after : ℕ → Option Value) : Type 0 where
  pub here : is_in after place ≡ true
  pub small : (q : ℕ) → is_in after q ≡ true → q < 102400000
  pub settled : AreSettled (text_at new) (values_over new nodes after)
  pub stuck : AreStuck (text_at new) (values_over new nodes after)

-- the place has another value now
abbrev pub differs : Rows → Rows → (ℕ → Option Node) → (ℕ → Option Value) → ℕ → Bool
differs old new nodes after q = not (same_value (stored (text_at old) (kept_values nodes) q) (values_over new nodes after q))

-- a cell with another value, where there is one
abbrev pub with_value : Option Value → Option Node → Option Node
with_value None node = node
with_value (Some v) None = None
with_value (Some v) (Some node) = Some (record node { value = v })
