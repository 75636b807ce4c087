-- What one look at a cell does, and what many do.
use Rattle.std.proofs.Common.{◌≡◌, ◌≢◌, ℕ, zero, suc, ◌+◌, ◌/◌, ◌%◌, ◌<◌, ◌≤◌, Bool, true, false, List, [], ◌∷◌, ◌++◌, Option, Some, None, unwrap_or, length, get_or, slice_index_or, ◌-◌, cond, map, ◌&&◌, ◌||◌, nat_le, refl, sym, ◌∙◌, ap, subst, arith, inl, inr, ◌⊎◌, length-append}
use Rattle.std.proofs.lemmas.Bool.{cases_eq, cases_lt}
use Rattle.std.proofs.lemmas.Bool.Decides.{nat_tests}
use Rattle.std.proofs.lemmas.List.Folds.{list_any-append}
use Rattle.std.proofs.lemmas.List.FromFn.{map-range_with_len_more}
use Rattle.std.specs.List.{list_any, range_with_len}
use Rattle.std.specs.Option.{is_some, option_or}
use Rattle.std.specs.Prelude.{slice_index}
use Rattle.std.specs.BTreeMap.{is_at}
use Rattle.std.specs.Ordering.{is_eq, nat_cmp}
use Rattle.std.proofs.lemmas.Grind.{common_steps}
use Rattle.grid_sheet.specs.Rows.{IsGrid, Rows, row_at}
use Rattle.grid_formulas.specs.Cells.{most_places, reads, reads_if}
use Rattle.grid_formulas.specs.Numbers.{plain_value}
use Rattle.grid_formulas.specs.Places.{cells_named, has, places_of, reads_of, text_at}
use Rattle.grid_formulas.specs.Reading.{formula_of, is_formula}
use Rattle.grid_formulas.specs.Sheets.{AreSettled, IsStuckAt, LooksAt, Rests, Sweeps, any_cycle, has_cycle, is_cycle, is_in, kept_values, values_over, waits}
use Rattle.grid_formulas.specs.Values.{value_of_formula}
use Rattle.grid_formulas.specs.declared.cells.Node.{Node}
use Rattle.grid_formulas.specs.declared.formula.Step.{Step}
use Rattle.grid_formulas.specs.declared.value.Value.{Value}
use Rattle.grid_formulas.specs.declared.value.Value.TheVariants as value
use Rattle.grid_formulas.proofs.Calm.{no_cycle_value}
use Rattle.grid_formulas.proofs.Valued.{settle_one}
use Rattle.grid_formulas.proofs.Walks.{Within, true_false}

-- ---- tests on lists of cells

pub any_at : (f : ℕ → Bool) (g : ℕ → ℕ) (a n k : ℕ) → k < n → f (g (a + k)) ≡ true → list_any f (map g (range_with_len a n)) ≡ true
any_at f g a zero k lt e = absurd (omega arith)
any_at f g a (suc n) zero lt e =
    let here : a + 0 ≡ a = omega arith in
    ap (λ b. b || list_any f (map g (range_with_len (a + 1) n))) (ap (λ z. f (g z)) (sym here) ∙ e)
any_at f g a (suc n) (suc k) lt e =
    let here : a + suc k ≡ (a + 1) + k = omega arith in
    let below : k < n = omega arith in
    let rest = any_at f g (a + 1) n k below (ap (λ z. f (g z)) (sym here) ∙ e) in
    elim (f (g a)) as (λ b. (b || list_any f (map g (range_with_len (a + 1) n))) ≡ true) [ true ↦ refl | false ↦ rest ]

pub none_more : (f : ℕ → Bool) (g : ℕ → ℕ) (n : ℕ) → list_any f (map g (range_with_len 0 n)) ≡ false → f (g n) ≡ false → list_any f (map g (range_with_len 0 (n + 1))) ≡ false
none_more f g n before here =
    ap (list_any f) (map-range_with_len_more g 0 n n (omega arith))
    ∙ list_any-append f (map g (range_with_len 0 n)) (g n ∷ [])
    ∙ ap (λ b. b || list_any f (g n ∷ [])) before ∙ ap (λ b. b || false) here

pub any_in_step : (f : ℕ → Bool) (steps : List Step) (k : ℕ) (d : Step) → k < length steps → list_any f (places_of (cells_named (get_or steps k d))) ≡ true → list_any f (reads_of steps) ≡ true
any_in_step f [] k d lt e = absurd (omega arith)
any_in_step f (s ∷ steps) zero d lt e =
    list_any-append f (places_of (cells_named s)) (reads_of steps) ∙ ap (λ b. b || list_any f (reads_of steps)) e
any_in_step f (s ∷ steps) (suc k) d lt e =
    let below : k < length steps = omega arith in
    let rest = any_in_step f steps k d below e in
    list_any-append f (places_of (cells_named s)) (reads_of steps)
    ∙ elim (list_any f (places_of (cells_named s))) as (λ b. (b || list_any f (reads_of steps)) ≡ true) [ true ↦ refl | false ↦ rest ]

-- ---- a grid has no cell past the last place

pub no_cell : (a b c : Bool) → b ≡ false → ((a && b) && c) ≡ false
no_cell true true c e = absurd (true_false e)
no_cell true false c e = refl
no_cell false b c e = refl

pub within_grid : (rows : Rows) → IsGrid rows → Within (text_at rows)
unfolding most_places
within_grid rows g p is =
    elim (cases_lt p 102400000) as (λ _. p < 102400000) [
      | inl below ↦ below
      | inr above ↦
          let few : length rows ≤ 100000 = g.few in
          let far : nat_le (p / 1024 + 1) (length rows) ≡ false = grind (arith, nat_tests) in
          absurd (true_false (sym is ∙ ap (λ b. is_formula (unwrap_or (cond b (Some (slice_index_or (row_at rows (p / 1024 + 1)) (p % 1024 + 1 - 1) [])) None) [])) (no_cell _ _ _ far)))
    ]

-- ---- one look

values_same : (rows : Rows) (nodes : ℕ → Option Node) (before after : ℕ → Option Value) (q : ℕ) → after q ≡ before q → values_over rows nodes after q ≡ values_over rows nodes before q
values_same rows nodes before after q e =
    ap (λ o. cond (is_formula (text_at rows q)) (unwrap_or (option_or o (kept_values nodes q)) value.Cycle) (plain_value (text_at rows q))) e

pub value_here : (rows : Rows) (nodes : ℕ → Option Node) (after : ℕ → Option Value) (place : ℕ) (v : Value) → is_formula (text_at rows place) ≡ true → after place ≡ Some v → values_over rows nodes after place ≡ v
value_here rows nodes after place v is e =
    ap (λ b. cond b (unwrap_or (option_or (after place) (kept_values nodes place)) value.Cycle) (plain_value (text_at rows place))) is
    ∙ ap (λ o. unwrap_or (option_or o (kept_values nodes place)) value.Cycle) e

waiting : (o : Option Value) → waits o ≡ true → (v : Value) × (o ≡ Some v) × (is_cycle v ≡ true)
waiting None e = absurd (true_false (sym e))
waiting (Some v) e = (v, refl, e)

-- another key, as a map compares
pub apart_at : (q place : ℕ) → q ≢ place → is_eq (nat_cmp place q) ≡ false
apart_at q place ne = grind (arith, common_steps)

pub and_false : (b : Bool) → (b && false) ≡ false
and_false true = refl
and_false false = refl

or_only : (b : Bool) → (b || false) ≡ true → b ≡ true
or_only true e = refl
or_only false e = e

-- the cell at a place that has this value, and is looked at anew
has_cycle_at : (rows : Rows) (after : ℕ → Option Value) (place : ℕ) (v : Value) → after place ≡ Some v → is_cycle v ≡ false → has_cycle (text_at rows) after place ≡ false
has_cycle_at rows after place v here quiet = ap (λ o. is_formula (text_at rows place) && waits o) here ∙ ap (λ b. is_formula (text_at rows place) && b) quiet ∙ and_false (is_formula (text_at rows place))

pub looked_settled : (rows : Rows) (nodes : ℕ → Option Node) (before after : ℕ → Option Value) (place : ℕ) (v : Value) (f : Option (List Step)) → IsGrid rows → is_formula (text_at rows place) ≡ true → waits (before place) ≡ true → f ≡ formula_of (text_at rows place) → any_cycle (values_over rows nodes before) (reads_if f) ≡ false → v ≡ value_of_formula (values_over rows nodes before) f → after place ≡ Some v → ((q : ℕ) → q ≢ place → after q ≡ before q) → LooksAt rows nodes before after false place
unfolding reads
looked_settled rows nodes before after place v f g is wait formula none follows here apart =
    let w = waiting (before place) wait in
    let values = values_over rows nodes before in
    let calm : is_cycle v ≡ false = ap is_cycle follows ∙ no_cycle_value values f none in
    record {
      keys = λ q. elim (cases_eq q place) as (λ _. is_in after q ≡ is_in before q) [
        | inl at ↦ ap (λ z. is_some (after z)) at ∙ ap is_some here ∙ sym (ap is_some w.1) ∙ sym (ap (λ z. is_some (before z)) at)
        | inr not_at ↦ ap is_some (apart q not_at)
      ];
      kept = λ s. settle_one (text_at rows) values (values_over rows nodes after) (within_grid rows g) s place is
          (ap is_cycle (value_here rows nodes before place w.0 is w.1) ∙ w.2)
          (ap (λ z. any_cycle values (reads_if z)) (sym formula) ∙ none)
          (λ q not_at. values_same rows nodes before after q (apart q not_at))
          (value_here rows nodes after place v is here ∙ follows ∙ ap (value_of_formula values) formula);
      quiet = λ q e. elim (cases_eq q place) as (λ _. has_cycle (text_at rows) after q ≡ false) [
        | inl at ↦ ap (has_cycle (text_at rows) after) at ∙ has_cycle_at rows after place v here calm
        | inr not_at ↦ ap (λ o. is_formula (text_at rows q) && waits o) (apart q not_at) ∙ e
      ];
      done = λ _. has_cycle_at rows after place v here calm;
      idle = λ e. absurd (true_false (sym e));
      stuck = λ e. absurd (true_false (sym e));
    }

-- a look at a cell without Cycle
pub looked_quiet : (rows : Rows) (nodes : ℕ → Option Node) (before : ℕ → Option Value) (place : ℕ) → has_cycle (text_at rows) before place ≡ false → LooksAt rows nodes before before false place
looked_quiet rows nodes before place quiet = record {
  keys = λ q. refl;
  kept = λ s. s;
  quiet = λ q e. e;
  done = λ _. quiet;
  idle = λ e. absurd (true_false (sym e));
  stuck = λ e. absurd (true_false (sym e));
}

-- a cell that reads one with Cycle
pub looked_stuck : (rows : Rows) (nodes : ℕ → Option Node) (before : ℕ → Option Value) (place : ℕ) (f : Option (List Step)) → f ≡ formula_of (text_at rows place) → any_cycle (values_over rows nodes before) (reads_if f) ≡ true → LooksAt rows nodes before before true place
unfolding reads
looked_stuck rows nodes before place f formula some = record {
  keys = λ q. refl;
  kept = λ s. s;
  quiet = λ q e. e;
  done = λ e. absurd (true_false e);
  idle = λ _. refl;
  stuck = λ _ _ _. ap (λ z. any_cycle (values_over rows nodes before) (reads_if z)) (sym formula) ∙ some;
}

-- ---- many looks

nat_cases : (x m : ℕ) → x < m + 1 → (x < m) ⊎ (x ≡ m)
nat_cases x m lt = elim (cases_lt x m) as (λ _. (x < m) ⊎ (x ≡ m)) [ inl below ↦ inl below | inr above ↦ inr (omega arith) ]

pub quiet_or : (b : Bool) (P : Type 0) → (b ≡ false → P) → (b ≡ true → P) → P
quiet_or true P f g = g refl
quiet_or false P f g = f refl

-- ---- lists of places

pub has_append : (xs ys : List ℕ) (q : ℕ) → has (xs ++ ys) q ≡ (has xs q || has ys q)
has_append xs ys q = list_any-append (is_at (nat_cmp q)) xs ys

pub same_place : (q : ℕ) → is_at (nat_cmp q) q ≡ true
same_place q = grind (arith, common_steps)

pub place_is : (q x : ℕ) → is_at (nat_cmp q) x ≡ true → x ≡ q
place_is q x e = elim (cases_eq x q) as (λ _. x ≡ q) [ inl same ↦ same | inr ne ↦ absurd (true_false (sym e ∙ apart_at x q ne)) ]

or_left : (a b : Bool) → a ≡ true → (a || b) ≡ true
or_left true b e = refl
or_left false b e = absurd (true_false (sym e))

pub or_right : (a b : Bool) → b ≡ true → (a || b) ≡ true
or_right true b e = refl
or_right false b e = e

pub has_more : (xs : List ℕ) (x q : ℕ) → has xs q ≡ true → has (xs ++ x ∷ []) q ≡ true
has_more xs x q e = has_append xs (x ∷ []) q ∙ or_left (has xs q) (has (x ∷ []) q) e

pub has_last : (xs : List ℕ) (x : ℕ) → has (xs ++ x ∷ []) x ≡ true
has_last xs x = has_append xs (x ∷ []) x ∙ or_right (has xs x) (has (x ∷ []) x) (ap (λ b. b || false) (same_place x))

pub has_cases : (xs : List ℕ) (x q : ℕ) → has (xs ++ x ∷ []) q ≡ true → (has xs q ≡ true) ⊎ (x ≡ q)
has_cases xs x q e =
    quiet_or (has xs q) ((has xs q ≡ true) ⊎ (x ≡ q))
    (λ no. inr (place_is q x (or_only (is_at (nat_cmp q) x) (sym (ap (λ b. b || has (x ∷ []) q) no) ∙ sym (has_append xs (x ∷ []) q) ∙ e))))
    (λ yes. inl yes)

-- the cell stays
pub sweeps_stay : (rows : Rows) (nodes : ℕ → Option Node) (order : List ℕ) (n : ℕ) (before mid after : ℕ → Option Value) (left : List ℕ) → Sweeps rows nodes order n before mid left → LooksAt rows nodes mid after true (slice_index order n) → Sweeps rows nodes order (n + 1) before after (left ++ slice_index order n ∷ [])
sweeps_stay rows nodes order n before mid after left s l =
    let more = length-append left (slice_index order n ∷ []) in
    let full : length (left ++ slice_index order n ∷ []) ≡ n + 1 → length left ≡ n = λ e. omega (arith, more, e) in
    record {
      keys = λ q. l.keys q ∙ s.keys q;
      kept = λ h. l.kept (s.kept h);
      quiet = λ q e. l.quiet q (s.quiet q e);
      fewer = omega (arith, more, s.fewer);
      among = λ k lt e.
          elim (nat_cases k n lt) as (λ _. has (left ++ slice_index order n ∷ []) (slice_index order k) ≡ true) [
            | inl below ↦ has_more left (slice_index order n) (slice_index order k) (s.among k below (ap (λ a. has_cycle (text_at rows) a (slice_index order k)) (sym (l.idle refl)) ∙ e))
            | inr same ↦ ap (λ z. has (left ++ slice_index order n ∷ []) (slice_index order z)) same ∙ has_last left (slice_index order n)
          ];
      idle = λ e. l.idle refl ∙ s.idle (full e);
      stuck = λ e q h.
          elim (has_cases left (slice_index order n) q h) as (λ _. IsStuckAt (text_at rows) (values_over rows nodes before) q) [
            | inl earlier ↦ s.stuck (full e) q earlier
            | inr last ↦
                subst (λ z. IsStuckAt (text_at rows) (values_over rows nodes before) z) last
                (subst (λ z. IsStuckAt (text_at rows) (values_over rows nodes z) (slice_index order n)) (s.idle (full e)) (l.stuck refl))
          ];
    }

-- the cell leaves the list
pub sweeps_leave : (rows : Rows) (nodes : ℕ → Option Node) (order : List ℕ) (n : ℕ) (before mid after : ℕ → Option Value) (left : List ℕ) → Sweeps rows nodes order n before mid left → LooksAt rows nodes mid after false (slice_index order n) → Sweeps rows nodes order (n + 1) before after left
sweeps_leave rows nodes order n before mid after left s l =
    let short : length left ≡ n + 1 → ⊥ = λ e. absurd (omega (arith, s.fewer, e)) in
    record {
      keys = λ q. l.keys q ∙ s.keys q;
      kept = λ h. l.kept (s.kept h);
      quiet = λ q e. l.quiet q (s.quiet q e);
      fewer = omega (arith, s.fewer);
      among = λ k lt e.
          elim (nat_cases k n lt) as (λ _. has left (slice_index order k) ≡ true) [
            | inl below ↦
                quiet_or (has_cycle (text_at rows) mid (slice_index order k)) (has left (slice_index order k) ≡ true)
                (λ no. absurd (true_false (sym e ∙ l.quiet (slice_index order k) no)))
                (λ yes. s.among k below yes)
            | inr same ↦ absurd (true_false (sym e ∙ ap (λ z. has_cycle (text_at rows) after (slice_index order z)) same ∙ l.done refl))
          ];
      idle = λ e. absurd (short e);
      stuck = λ e. absurd (short e);
    }

-- ---- until nothing moves

-- what sweeps have done: the cells with Cycle are among those left; where the last sweep left all that it looked at, they are stuck
abbrev pub Sweeping : Rows → (ℕ → Option Node) → List ℕ → (ℕ → Option Value) → (ℕ → Option Value) → ℕ → List ℕ → Type 0
Sweeping rows nodes order first after looked left =
    ((q : ℕ) → is_in after q ≡ is_in first q)
    × (AreSettled (text_at rows) (values_over rows nodes first) → AreSettled (text_at rows) (values_over rows nodes after))
    × (length left ≤ looked)
    × ((k : ℕ) → k < length order → has_cycle (text_at rows) after (slice_index order k) ≡ true → has left (slice_index order k) ≡ true)
    × (length left ≡ looked → (q : ℕ) → has left q ≡ true → IsStuckAt (text_at rows) (values_over rows nodes after) q)

stuck_after : (rows : Rows) (nodes : ℕ → Option Node) (order : List ℕ) (before after : ℕ → Option Value) (left : List ℕ) → Sweeps rows nodes order (length order) before after left → length left ≡ length order → (q : ℕ) → has left q ≡ true → IsStuckAt (text_at rows) (values_over rows nodes after) q
stuck_after rows nodes order before after left s e q h =
    subst (λ z. IsStuckAt (text_at rows) (values_over rows nodes z) q) (sym (s.idle e)) (s.stuck e q h)

pub first_sweep : (rows : Rows) (nodes : ℕ → Option Node) (order : List ℕ) (before after : ℕ → Option Value) (left : List ℕ) → Sweeps rows nodes order (length order) before after left → Sweeping rows nodes order before after (length order) left
first_sweep rows nodes order before after left s = (s.keys, s.kept, s.fewer, s.among, stuck_after rows nodes order before after left s)

-- a place of a list stands at an index
pub place_index : (xs : List ℕ) (q : ℕ) → has xs q ≡ true → (k : ℕ) × (k < length xs) × (slice_index xs k ≡ q)
place_index [] q e = absurd (true_false (sym e))
place_index (x ∷ xs) q e =
    quiet_or (is_at (nat_cmp q) x) ((k : ℕ) × (k < length (x ∷ xs)) × (slice_index (x ∷ xs) k ≡ q))
    (λ no. let rest = place_index xs q (sym (ap (λ b. b || has xs q) no) ∙ e) in (suc rest.0, omega (arith, rest.1), rest.2))
    (λ yes. (0, omega arith, place_is q x yes))

pub next_sweep : (rows : Rows) (nodes : ℕ → Option Node) (order : List ℕ) (first before after : ℕ → Option Value) (looked : ℕ) (waiting left : List ℕ) → Sweeping rows nodes order first before looked waiting → Sweeps rows nodes waiting (length waiting) before after left → Sweeping rows nodes order first after (length waiting) left
next_sweep rows nodes order first before after looked waiting left w s = (
  λ q. s.keys q ∙ w.0 q,
  λ h. s.kept (w.1 h),
  s.fewer,
  λ k lt e.
      quiet_or (has_cycle (text_at rows) before (slice_index order k)) (has left (slice_index order k) ≡ true)
      (λ no. absurd (true_false (sym e ∙ s.quiet (slice_index order k) no)))
      (λ yes.
      let at = place_index waiting (slice_index order k) (w.3 k lt yes) in
      ap (has left) (sym at.2) ∙ s.among at.0 at.1 (ap (has_cycle (text_at rows) after) at.2 ∙ e)),
  stuck_after rows nodes waiting before after left s,
)

-- after a sweep that left all that it looked at
pub rests : (rows : Rows) (nodes : ℕ → Option Node) (order : List ℕ) (first after : ℕ → Option Value) (looked : ℕ) (left : List ℕ) → Sweeping rows nodes order first after looked left → looked ≤ length left → Rests rows nodes order first after
rests rows nodes order first after looked left w le = record {
  keys = w.0;
  kept = w.1;
  stuck = λ k lt e.
      let all : length left ≡ looked = omega (arith, w.2, le) in
      w.4 all (slice_index order k) (w.3 k lt e);
}
