use Rattle.std.proofs.Common.{◌≡◌, ◌++◌, List, ◌+◌, ◌-◌, ◌*◌}
use Rattle.grid_formulas.specs.declared.formula.Step.{Step}
use Rattle.grid_formulas.specs.Reading.{more, product_at, sign_at, star_at, sum_at, unary_at}
use Rattle.grid_formulas.proofs.reader.+readers.Given as goal

abbrev pub decreases-negative : goal.decreases-negative
decreases-negative l = 4 * l.depth + 1

abbrev pub decreases-parentheses : goal.decreases-parentheses
decreases-parentheses l = 4 * l.depth + 3

abbrev pub decreases-product : goal.decreases-product
decreases-product l = 4 * l.depth + 1

abbrev pub decreases-sum : goal.decreases-sum
decreases-sum l = 4 * l.depth + 2

abbrev pub decreases-unary : goal.decreases-unary
decreases-unary l = 4 * l.depth

-- what was read so far, and what reading on gives
abbrev pub invariant-product-unaries : goal.invariant-product-unaries
invariant-product-unaries l =
    (left : List Step) × (l.steps.items ≡ l.fn.steps.items ++ left)
    × (product_at (unary_at l.depth) l.text ≡ more star_at (unary_at l.depth) (l.end - l.counter) left l.rest)

abbrev pub invariant-sum-products : goal.invariant-sum-products
invariant-sum-products l =
    (left : List Step) × (l.steps.items ≡ l.fn.steps.items ++ left)
    × (sum_at (unary_at l.depth) l.text ≡ more sign_at (product_at (unary_at l.depth)) (l.end - l.counter) left l.rest)
