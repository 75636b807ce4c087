-- The lines of a segment, as they are seen while they come. (Own.)
use Rattle.std.specs.Prelude.{◌≡◌, ℕ, ◌+◌, Bool, true, false, List, [], ◌++◌, length}
use Rattle.journal_segments.specs.declared.rows.Head.{Head}
use Rattle.journal_segments.specs.declared.rows.Row.{Row}
use Rattle.journal_segments.specs.declared.rows.Row.TheVariants as row
use Rattle.journal_segments.specs.declared.state.State.{State}
use Rattle.journal_segments.specs.Rows.{IsForm, MayCome, start, state_after, step}

-- the line takes back the one before it
abbrev pub is_off : Row → Bool
is_off row.Off = true
is_off other = false

-- that line comes behind the others, and has that number; it takes back the one before it or doesn't, and behind it stands that state
pub record IsNext (head : Head) (rows : List Row) (one : Row) (number : ℕ) (back : Bool) (state : State) : Type 0 where
  pub form_is : IsForm one
  pub comes : MayCome (state_after (start head) rows) one
  pub number_is : number ≡ length rows + 2
  pub back_is : back ≡ is_off one
  pub state_is : state ≡ step (state_after (start head) rows) one

-- what has seen the lines up to that state, so many with the first, has seen these too
abbrev pub Sees : {W : Type 0} → (W → Head → List Row → Type 0) → W → W → State → ℕ → List Row → Type 0
Sees has_seen old new state number rows =
    (head : Head) (before : List Row) → state ≡ state_after (start head) before → number ≡ length before + 1 → has_seen old head before → has_seen new head (before ++ rows)

-- it has seen no line yet
abbrev pub IsFresh : {W : Type 0} → (W → Head → List Row → Type 0) → W → Type 0
IsFresh has_seen watcher = (head : Head) → has_seen watcher head []
