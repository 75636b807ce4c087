-- Gathering the formula cells of a grid.
use Rattle.std.proofs.Common.{◌≡◌, ◌≢◌, ℕ, zero, suc, ◌+◌, ◌-◌, ◌*◌, ◌/◌, ◌%◌, ◌<◌, ◌≤◌, ◌^◌, min, Bool, true, false, List, [], ◌∷◌, Option, Some, None, length, take, drop, get_or, slice_index_or, unwrap_or, cond, ◌&&◌, nat_le, nat_lt, refl, sym, ◌∙◌, ap, subst, arith, inl, inr, ◌⊎◌, length-append, add-one, zero-add}
use Rattle.std.proofs.lemmas.Bool.{cases_lt}
use Rattle.std.proofs.lemmas.Bool.Decides.{nat_tests}
use Rattle.std.proofs.lemmas.Grind.{flat_map-append}
use Rattle.std.proofs.lemmas.List.{take_more}
use Rattle.std.proofs.lemmas.List.FromFn.{length-map-range_with_len}
use Rattle.std.specs.Option.{IsSome, is_some}
use Rattle.grid_sheet.specs.Rows.{IsGrid, Rows, cell_at, row_at}
use Rattle.grid_formulas.specs.Cells.{IsSheetFault, link_count, most_places, reads, reads_if, sum_below}
use Rattle.grid_formulas.specs.Places.{cells_named, nth_of, places_of, reads_of, text_at}
use Rattle.grid_formulas.specs.Reading.{formula_of, is_formula, sum_at, unary_at, whole}
use Rattle.grid_formulas.specs.Sheets.{Gathers, IsGatherFault, KnowsFormulas, formula_in}
use Rattle.grid_formulas.proofs.Looks.{no_cell}
use Rattle.grid_formulas.proofs.Walks.{true_false}
use Rattle.grid_formulas.specs.declared.fault.SheetFault.{SheetFault}
use Rattle.grid_formulas.specs.declared.fault.SheetFault.TheVariants as fault
use Rattle.grid_formulas.specs.declared.cells.Node.{Node}
use Rattle.grid_formulas.specs.declared.formula.Step.{Step}

lt_irrefl : (q place : ℕ) → q < place → q ≡ place → ⊥
lt_irrefl q place lt e = absurd (omega arith)

pub reads_more : (steps : List Step) (k : ℕ) (d : Step) → k < length steps → length (reads_of (take (k + 1) steps)) ≡ length (reads_of (take k steps)) + (cells_named (get_or steps k d)).size
reads_more steps k d lt =
    ap (λ s. length (reads_of s)) (take_more steps k d lt)
    ∙ ap length (flat_map-append (λ s. places_of (cells_named s)) (take k steps) (get_or steps k d ∷ []))
    ∙ length-append (reads_of (take k steps)) (reads_of (get_or steps k d ∷ []))
    ∙ ap (λ n. length (reads_of (take k steps)) + n) (length-append (places_of (cells_named (get_or steps k d))) [] ∙ omega (arith, length-map-range_with_len (nth_of (cells_named (get_or steps k d))) 0 (cells_named (get_or steps k d)).size))

pub sum_below_more : (f : ℕ → ℕ) (n : ℕ) → sum_below f (n + 1) ≡ sum_below f n + f n
unfolding sum_below
sum_below_more f n = ap (sum_below f) (add-one n)

pub sum_below_le : (f : ℕ → ℕ) (k n : ℕ) → sum_below f n ≤ sum_below f (k + n)
unfolding sum_below
sum_below_le f zero n =
    let same : 0 + n ≡ n = omega arith in
    let here : sum_below f n ≤ sum_below f n = omega arith in
    subst (λ m. sum_below f n ≤ sum_below f m) (sym same) here
sum_below_le f (suc k) n =
    let before = sum_below_le f k n in
    let next : suc k + n ≡ suc (k + n) = omega arith in
    let here : sum_below f n ≤ sum_below f (k + n) + f (k + n) = omega arith in
    subst (λ m. sum_below f n ≤ sum_below f m) (sym next) here

pub no_reads : (text : List ℕ) → is_formula text ≡ false → length (reads text) ≡ 0
unfolding reads formula_of
no_reads text e = ap (λ b. length (reads_if (cond (b && nat_le (length text) 1024) (whole (sum_at (unary_at 64) (drop 1 text))) None))) e

nat_cases : (x m : ℕ) → x < m + 1 → (x < m) ⊎ (x ≡ m)
nat_cases x m lt = elim (cases_lt x m) as (λ _. (x < m) ⊎ (x ≡ m)) [ inl below ↦ inl below | inr above ↦ inr (omega arith) ]

-- a cell that is no formula
pub gathers_plain : (text : ℕ → List ℕ) (nodes : ℕ → Option Node) (place count : ℕ) → Gathers text nodes place count → is_formula (text place) ≡ false → Gathers text nodes (place + 1) count
gathers_plain text nodes place count g e = record {
  there = λ q lt is. elim (nat_cases q place lt) as (λ _. IsSome (nodes q)) [ inl below ↦ g.there q below is | inr same ↦ absurd (true_false (sym is ∙ ap (λ z. is_formula (text z)) same ∙ e)) ];
  known = λ q lt is. elim (nat_cases q place lt) as (λ _. formula_in (nodes q) ≡ formula_of (text q)) [ inl below ↦ g.known q below is | inr same ↦ absurd (true_false (sym is ∙ ap (λ z. is_formula (text z)) same ∙ e)) ];
  counts = omega (arith, g.counts, sum_below_more (λ q. length (reads (text q))) place, no_reads (text place) e);
  few = g.few;
}

-- a formula
pub gathers_formula : (text : ℕ → List ℕ) (nodes nodes' : ℕ → Option Node) (place count named : ℕ) (node : Node) → Gathers text nodes place count → formula_in (Some node) ≡ formula_of (text place) → named ≡ length (reads (text place)) → count + named ≤ 1000000 → nodes' place ≡ Some node → ((q : ℕ) → q ≢ place → nodes' q ≡ nodes q) → Gathers text nodes' (place + 1) (count + named)
gathers_formula text nodes nodes' place count named node g formula names few here apart = record {
  there = λ q lt is. elim (nat_cases q place lt) as (λ _. IsSome (nodes' q)) [
    | inl below ↦ ap is_some (apart q (λ e. lt_irrefl q place below e)) ∙ g.there q below is
    | inr same ↦ ap (λ z. is_some (nodes' z)) same ∙ ap is_some here
  ];
  known = λ q lt is. elim (nat_cases q place lt) as (λ _. formula_in (nodes' q) ≡ formula_of (text q)) [
    | inl below ↦ ap formula_in (apart q (λ e. lt_irrefl q place below e)) ∙ g.known q below is
    | inr same ↦ ap (λ z. formula_in (nodes' z)) same ∙ ap formula_in here ∙ formula ∙ ap (λ z. formula_of (text z)) (sym same)
  ];
  counts = omega (arith, g.counts, sum_below_more (λ q. length (reads (text q))) place, names);
  few = few;
}

-- no cell stands past the rows
pub past_rows : (rows : Rows) (p : ℕ) → length rows * 1024 ≤ p → text_at rows p ≡ []
past_rows rows p above =
    let far : nat_le (p / 1024 + 1) (length rows) ≡ false = grind (arith, nat_tests) in
    ap (λ b. unwrap_or (cond b (Some (slice_index_or (row_at rows (p / 1024 + 1)) (p % 1024 + 1 - 1) [])) None) []) (no_cell _ _ _ far)

sum_below_zero : (f : ℕ → ℕ) (k n : ℕ) → ((q : ℕ) → n ≤ q → f q ≡ 0) → sum_below f (k + n) ≡ sum_below f n
unfolding sum_below
sum_below_zero f zero n none =
    let same : 0 + n ≡ n = omega arith in
    ap (sum_below f) same
sum_below_zero f (suc k) n none =
    let before = sum_below_zero f k n none in
    let above : n ≤ k + n = omega arith in
    let here = none (k + n) above in
    let next : suc k + n ≡ suc (k + n) = omega arith in
    let step : sum_below f (k + n) + f (k + n) ≡ sum_below f n = omega arith in
    ap (sum_below f) next ∙ step

pub all_links : (rows : Rows) → IsGrid rows → sum_below (λ q. length (reads (text_at rows q))) (length rows * 1024) ≡ link_count (text_at rows)
unfolding most_places
all_links rows g =
    let f : ℕ → ℕ = λ q. length (reads (text_at rows q)) in
    let few : length rows ≤ 100000 = g.few in
    let none : (q : ℕ) → length rows * 1024 ≤ q → f q ≡ 0 = λ q le. no_reads (text_at rows q) (ap is_formula (past_rows rows q le)) in
    let whole_grid : (102400000 - length rows * 1024) + length rows * 1024 ≡ 102400000 = omega arith in
    sym (sum_below_zero f (102400000 - length rows * 1024) (length rows * 1024) none) ∙ ap (sum_below f) whole_grid

pub knows_all : (rows : Rows) (nodes : ℕ → Option Node) (count : ℕ) → Gathers (text_at rows) nodes (length rows * 1024) count → KnowsFormulas (text_at rows) nodes
knows_all rows nodes count g =
    let before : (p : ℕ) → is_formula (text_at rows p) ≡ true → p < length rows * 1024 = λ p is.
    elim (cases_lt p (length rows * 1024)) as (λ _. p < length rows * 1024)
    [ inl below ↦ below | inr above ↦ absurd (true_false (sym is ∙ ap is_formula (past_rows rows p above))) ] in
    record {
      there = λ p is. g.there p (before p is) is;
      known = λ p is. g.known p (before p is) is;
    }

-- ---- refusals

pub too_many : (text : ℕ → List ℕ) (nodes : ℕ → Option Node) (place count named : ℕ) → Gathers text nodes place count → named ≡ min (length (reads (text place))) (2 ^ 64 - 1) → 1000000 - count < named → 1000000 < sum_below (λ q. length (reads (text q))) (place + 1)
too_many text nodes place count named g names many = omega (arith, g.counts, g.few, sum_below_more (λ q. length (reads (text q))) place)

pub sheet_fault : (rows : Rows) (bound : ℕ) (f : SheetFault) → IsGrid rows → bound ≤ length rows * 1024 → IsGatherFault (text_at rows) bound f → IsSheetFault rows f
sheet_fault rows bound fault.TooManyLinks g le h =
    let f : ℕ → ℕ = λ q. length (reads (text_at rows q)) in
    let split : (length rows * 1024 - bound) + bound ≡ length rows * 1024 = omega arith in
    let more : sum_below f bound ≤ sum_below f (length rows * 1024) = subst (λ m. sum_below f bound ≤ sum_below f m) split (sum_below_le f (length rows * 1024 - bound) bound) in
    let all = all_links rows g in
    omega arith
sheet_fault rows bound fault.Memory g le h = tt

-- nothing is gathered yet
pub gathers_none : (text : ℕ → List ℕ) (nodes : ℕ → Option Node) → Gathers text nodes 0 0
unfolding sum_below
gathers_none text nodes = record {
  there = λ q lt is. absurd (omega arith);
  known = λ q lt is. absurd (omega arith);
  counts = refl;
  few = omega arith;
}

-- ---- cells that are not there

not_there : (z a y b : Bool) (text : List ℕ) → z ≡ true → a ≡ true → y ≡ true → is_some (cond ((z && a) && (y && b)) (Some text) None) ≡ false → b ≡ false
not_there z a y true text i e f none =
    absurd (true_false (sym (ap (λ x. is_some (cond ((x && a) && (y && true)) (Some text) None)) i ∙ ap (λ x. is_some (cond ((true && x) && (y && true)) (Some text) None)) e ∙ ap (λ x. is_some (cond ((true && true) && (x && true)) (Some text) None)) f) ∙ none))
not_there z a y false text i e f none = refl

no_last : (a b c : Bool) → c ≡ false → (a && (b && c)) ≡ false
no_last true true c e = e
no_last true false c e = refl
no_last false b c e = refl

-- no cell of the row stands behind one that is not there
pub past_cell : (rows : Rows) (row column q : ℕ) → row < length rows → column < 1024 → is_some (cell_at rows (row + 1) (column + 1)) ≡ false → row * 1024 + column ≤ q → q < (row + 1) * 1024 → text_at rows q ≡ []
past_cell rows row column q inside narrow none from below =
    let row_is : q / 1024 ≡ row = omega arith in
    let column_from : column ≤ q % 1024 = omega arith in
    let has : nat_le (row + 1) (length rows) ≡ true = grind (arith, nat_tests) in
    let first : nat_lt 0 (row + 1) ≡ true = grind (arith, nat_tests) in
    let first_column : nat_lt 0 (column + 1) ≡ true = grind (arith, nat_tests) in
    let cells = row_at rows (row + 1) in
    let short : nat_le (column + 1) (length cells) ≡ false = not_there (nat_lt 0 (row + 1)) (nat_le (row + 1) (length rows)) (nat_lt 0 (column + 1)) (nat_le (column + 1) (length cells)) (slice_index_or cells (column + 1 - 1) []) first has first_column none in
    let shorter : nat_le (q % 1024 + 1) (length cells) ≡ false = grind (arith, nat_tests) in
    ap (λ r. unwrap_or (cond ((nat_lt 0 (r + 1) && nat_le (r + 1) (length rows)) && (nat_lt 0 (q % 1024 + 1) && nat_le (q % 1024 + 1) (length (row_at rows (r + 1))))) (Some (slice_index_or (row_at rows (r + 1)) (q % 1024 + 1 - 1) [])) None) []) row_is
    ∙ ap (λ b. unwrap_or (cond b (Some (slice_index_or cells (q % 1024 + 1 - 1) [])) None) []) (no_last _ _ _ shorter)

-- a stretch without cells
pub gathers_skip : (text : ℕ → List ℕ) (nodes : ℕ → Option Node) (k place count : ℕ) → Gathers text nodes place count → ((q : ℕ) → place ≤ q → q < k + place → text q ≡ []) → Gathers text nodes (k + place) count
gathers_skip text nodes zero place count g none = subst (λ z. Gathers text nodes z count) (sym (zero-add place)) g
gathers_skip text nodes (suc k) place count g none =
    let next : (k + place) + 1 ≡ suc k + place = omega arith in
    let before = gathers_skip text nodes k place count g (λ q from below. let wider : q < suc k + place = omega arith in none q from wider) in
    let from : place ≤ k + place = omega arith in
    let below : k + place < suc k + place = omega arith in
    subst (λ z. Gathers text nodes z count) next (gathers_plain text nodes (k + place) count before (ap is_formula (none (k + place) from below)))

pub gathers_row : (rows : Rows) (nodes : ℕ → Option Node) (row column count : ℕ) → row < length rows → column < 1024 → is_some (cell_at rows (row + 1) (column + 1)) ≡ false → Gathers (text_at rows) nodes (row * 1024 + column) count → Gathers (text_at rows) nodes ((row + 1) * 1024) count
gathers_row rows nodes row column count inside narrow none g =
    let end : (1024 - column) + (row * 1024 + column) ≡ (row + 1) * 1024 = omega arith in
    subst (λ z. Gathers (text_at rows) nodes z count) end
    (gathers_skip (text_at rows) nodes (1024 - column) (row * 1024 + column) count g
    (λ q from below. let under : q < (row + 1) * 1024 = omega arith in past_cell rows row column q inside narrow none from under))
