-- A formula that reads nothing with Cycle has another value.
use Rattle.std.proofs.Common.{◌≡◌, ℕ, zero, suc, ◌-◌, Bool, true, false, List, [], ◌∷◌, ◌++◌, Option, Some, None, length, take, slice_index_or, cond, ◌||◌, refl, sym, ◌∙◌, ap, ℤ, pos}
use Rattle.std.specs.Prelude.{neg_ℤ}
use Rattle.std.specs.List.{list_any, fold}
use Rattle.std.proofs.lemmas.List.Folds.{list_any-append}
use Rattle.grid_formulas.specs.Cells.{reads_if}
use Rattle.grid_formulas.specs.Places.{cells_named, places_of, reads_of}
use Rattle.grid_formulas.specs.Sheets.{any_cycle, is_cycle}
use Rattle.grid_formulas.specs.Values.{after_step, as_number, fits, operated, operation_of, popped, sum_of, top, value_of_formula, with_cell, with_operation, with_right}
use Rattle.grid_formulas.specs.declared.formula.Step.{Step}
use Rattle.grid_formulas.specs.declared.formula.Step.TheVariants as step
use Rattle.grid_formulas.specs.declared.value.Value.{Value}
use Rattle.grid_formulas.specs.declared.value.Value.TheVariants as value
use Rattle.grid_formulas.proofs.Valued.{first_named, or_false_left, or_false_right}

-- ---- single values

calm_fitted : (b : Bool) (z : ℤ) → is_cycle (cond b (value.Number z) value.NumberFault) ≡ false
calm_fitted true z = refl
calm_fitted false z = refl

calm_right : (f : ℤ → ℤ) (v : Value) → is_cycle v ≡ false → is_cycle (with_right f v) ≡ false
calm_right f (value.Number b) e = calm_fitted (fits (f b)) (f b)
calm_right f value.Empty e = e
calm_right f value.Text e = e
calm_right f value.NameFault e = e
calm_right f value.KindFault e = e
calm_right f value.NumberFault e = e
calm_right f value.Cycle e = e

calm_operated : (f : ℤ → ℤ → ℤ) (a b : Value) → is_cycle a ≡ false → is_cycle b ≡ false → is_cycle (operated f a b) ≡ false
calm_operated f (value.Number a) b d e = calm_right (f a) b e
calm_operated f value.Empty b d e = d
calm_operated f value.Text b d e = d
calm_operated f value.NameFault b d e = d
calm_operated f value.KindFault b d e = d
calm_operated f value.NumberFault b d e = d
calm_operated f value.Cycle b d e = d

calm_number : (v : Value) → is_cycle v ≡ false → is_cycle (as_number v) ≡ false
calm_number (value.Number b) e = refl
calm_number value.Empty e = refl
calm_number value.Text e = refl
calm_number value.NameFault e = refl
calm_number value.KindFault e = refl
calm_number value.NumberFault e = refl
calm_number value.Cycle e = e

calm_cell : (total v : Value) → is_cycle total ≡ false → is_cycle v ≡ false → is_cycle (with_cell total v) ≡ false
calm_cell total value.Empty d e = d
calm_cell total value.Text d e = d
calm_cell total (value.Number b) d e = calm_operated (operation_of step.Plus) total (value.Number b) d e
calm_cell total value.NameFault d e = calm_operated (operation_of step.Plus) total value.NameFault d e
calm_cell total value.KindFault d e = calm_operated (operation_of step.Plus) total value.KindFault d e
calm_cell total value.NumberFault d e = calm_operated (operation_of step.Plus) total value.NumberFault d e
calm_cell total value.Cycle d e = calm_operated (operation_of step.Plus) total value.Cycle d e

calm_sum : (values : ℕ → Value) (total : Value) (places : List ℕ) → is_cycle total ≡ false → any_cycle values places ≡ false → is_cycle (fold (λ t p. with_cell t (values p)) total places) ≡ false
calm_sum values total [] d e = d
calm_sum values total (p ∷ ps) d e =
    calm_sum values (with_cell total (values p)) ps
    (calm_cell total (values p) d (or_false_left (is_cycle (values p)) (any_cycle values ps) e))
    (or_false_right (is_cycle (values p)) (any_cycle values ps) e)

-- ---- stacks

calm_at : (stack : List Value) (i : ℕ) → list_any is_cycle stack ≡ false → is_cycle (slice_index_or stack i value.Empty) ≡ false
calm_at [] i e = refl
calm_at (v ∷ vs) zero e = or_false_left (is_cycle v) (list_any is_cycle vs) e
calm_at (v ∷ vs) (suc i) e = calm_at vs i (or_false_right (is_cycle v) (list_any is_cycle vs) e)

calm_take : (n : ℕ) (stack : List Value) → list_any is_cycle stack ≡ false → list_any is_cycle (take n stack) ≡ false
calm_take zero stack e = refl
calm_take (suc n) [] e = refl
calm_take (suc n) (v ∷ vs) e =
    ap (λ b. b || list_any is_cycle (take n vs)) (or_false_left (is_cycle v) (list_any is_cycle vs) e)
    ∙ calm_take n vs (or_false_right (is_cycle v) (list_any is_cycle vs) e)

calm_push : (stack : List Value) (v : Value) → list_any is_cycle stack ≡ false → is_cycle v ≡ false → list_any is_cycle (stack ++ v ∷ []) ≡ false
calm_push stack v d e = list_any-append is_cycle stack (v ∷ []) ∙ ap (λ b. b || list_any is_cycle (v ∷ [])) d ∙ ap (λ b. b || false) e

calm_top : (stack : List Value) → list_any is_cycle stack ≡ false → is_cycle (top stack) ≡ false
calm_top stack e = calm_at stack (length stack - 1) e

calm_popped : (stack : List Value) → list_any is_cycle stack ≡ false → list_any is_cycle (popped stack) ≡ false
calm_popped stack e = calm_take (length stack - 1) stack e

calm_operation : (f : ℤ → ℤ → ℤ) (stack : List Value) → list_any is_cycle stack ≡ false → list_any is_cycle (with_operation f stack) ≡ false
calm_operation f stack e =
    calm_push (popped (popped stack)) (operated f (top (popped stack)) (top stack)) (calm_popped (popped stack) (calm_popped stack e))
    (calm_operated f (top (popped stack)) (top stack) (calm_top (popped stack) (calm_popped stack e)) (calm_top stack e))

calm_step : (values : ℕ → Value) (stack : List Value) (s : Step) → list_any is_cycle stack ≡ false → any_cycle values (places_of (cells_named s)) ≡ false → list_any is_cycle (after_step values stack s) ≡ false
calm_step values stack (step.Digits number) d e = calm_push stack (value.Number number) d refl
calm_step values stack (step.Cell place) d e =
    let here : is_cycle (values place) ≡ false = ap (λ z. is_cycle (values z)) (sym (first_named place)) ∙ or_false_left _ _ e in
    calm_push stack (as_number (values place)) d (calm_number (values place) here)
calm_step values stack (step.Sum span) d e = calm_push stack (sum_of values (places_of span)) d (calm_sum values (value.Number (pos 0)) (places_of span) refl e)
calm_step values stack step.Negative d e = calm_push (popped stack) (with_right neg_ℤ (top stack)) (calm_popped stack d) (calm_right neg_ℤ (top stack) (calm_top stack d))
calm_step values stack step.Product d e = calm_operation (operation_of step.Product) stack d
calm_step values stack step.Plus d e = calm_operation (operation_of step.Plus) stack d
calm_step values stack step.Minus d e = calm_operation (operation_of step.Minus) stack d

calm_steps : (values : ℕ → Value) (stack : List Value) (steps : List Step) → list_any is_cycle stack ≡ false → any_cycle values (reads_of steps) ≡ false → list_any is_cycle (fold (after_step values) stack steps) ≡ false
calm_steps values stack [] d e = d
calm_steps values stack (s ∷ steps) d e =
    let both : (any_cycle values (places_of (cells_named s)) || any_cycle values (reads_of steps)) ≡ false = sym (list_any-append (λ p. is_cycle (values p)) (places_of (cells_named s)) (reads_of steps)) ∙ e in
    calm_steps values (after_step values stack s) steps
    (calm_step values stack s d (or_false_left _ _ both))
    (or_false_right (any_cycle values (places_of (cells_named s))) _ both)

pub no_cycle_value : (values : ℕ → Value) (formula : Option (List Step)) → any_cycle values (reads_if formula) ≡ false → is_cycle (value_of_formula values formula) ≡ false
unfolding value_of_formula
no_cycle_value values None e = refl
no_cycle_value values (Some steps) e = calm_top (fold (after_step values) [] steps) (calm_steps values [] steps refl e)
