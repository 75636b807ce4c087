-- The value of a formula, over the values of the cells that it reads. (Own.)
use Rattle.std.specs.Prelude.{ℕ, ◌-◌, ◌^◌, Bool, List, [], ◌∷◌, ◌++◌, length, take, slice_index_or, Option, Some, None, nat_lt, ℤ, pos, negsuc, ◌+ℤ◌, ◌-ℤ◌, ◌*ℤ◌, neg_ℤ, if◌then◌else◌}
use Rattle.std.specs.List.{fold}
use Rattle.grid_formulas.specs.declared.formula.Step.{Step}
use Rattle.grid_formulas.specs.declared.formula.Step.TheVariants as step
use Rattle.grid_formulas.specs.declared.value.Value.{Value}
use Rattle.grid_formulas.specs.declared.value.Value.TheVariants as value
use Rattle.grid_formulas.specs.Places.{places_of}

-- the number is an i128
abbrev pub fits : ℤ → Bool
fits (pos n) = nat_lt n (2 ^ 127)
fits (negsuc n) = nat_lt n (2 ^ 127)

abbrev pub fitted : ℤ → Value
fitted number = if fits number then value.Number number else value.NumberFault

-- what a formula takes a cell for: an empty cell is 0, and a text no number
abbrev pub as_number : Value → Value
as_number value.Empty = value.Number (pos 0)
as_number value.Text = value.KindFault
as_number v = v

abbrev pub with_right : (ℤ → ℤ) → Value → Value
with_right f (value.Number b) = fitted (f b)
with_right f fault = fault

-- the left operand's fault, else the right one's, else the exact number
abbrev pub operated : (ℤ → ℤ → ℤ) → Value → Value → Value
operated f (value.Number a) right = with_right (f a) right
operated f fault right = fault

-- the exact operation on numbers that a step stands for
abbrev pub operation_of : Step → ℤ → ℤ → ℤ
operation_of step.Product a b = a *ℤ b
operation_of step.Minus a b = a -ℤ b
operation_of _ a b = a +ℤ b

-- a total with one cell more: it passes over empty cells and texts, and stops with the first fault
abbrev pub with_cell : Value → Value → Value
with_cell total value.Empty = total
with_cell total value.Text = total
with_cell total v = operated (operation_of step.Plus) total v

abbrev pub sum_of : (ℕ → Value) → List ℕ → Value
sum_of values places = fold (λ total place. with_cell total (values place)) (value.Number (pos 0)) places

-- the last of the stack, and what stands before it
abbrev pub top : List Value → Value
top stack = slice_index_or stack (length stack - 1) value.Empty

abbrev pub popped : List Value → List Value
popped stack = take (length stack - 1) stack

abbrev pub with_operation : (ℤ → ℤ → ℤ) → List Value → List Value
with_operation f stack = popped (popped stack) ++ operated f (top (popped stack)) (top stack) ∷ []

-- the stack of values after a step
abbrev pub after_step : (ℕ → Value) → List Value → Step → List Value
after_step values stack (step.Digits number) = stack ++ value.Number number ∷ []
after_step values stack (step.Cell place) = stack ++ as_number (values place) ∷ []
after_step values stack (step.Sum span) = stack ++ sum_of values (places_of span) ∷ []
after_step values stack step.Negative = popped stack ++ with_right neg_ℤ (top stack) ∷ []
after_step values stack step.Product = with_operation (operation_of step.Product) stack
after_step values stack step.Plus = with_operation (operation_of step.Plus) stack
after_step values stack step.Minus = with_operation (operation_of step.Minus) stack

-- the value of a formula; one that the grammar doesn't have is a fault and reads nothing
unfoldable pub value_of_formula : (ℕ → Value) → Option (List Step) → Value
value_of_formula values None = value.NameFault
value_of_formula values (Some steps) = top (fold (after_step values) [] steps)

abbrev pub number_or_fault : Option ℤ → Value
number_or_fault None = value.NumberFault
number_or_fault (Some number) = value.Number number
