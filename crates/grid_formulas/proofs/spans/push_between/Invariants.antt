use Rattle.std.proofs.Common.{◌≡◌, ◌≤◌, ◌⊎◌, ℕ, true}
use Rattle.grid_formulas.specs.Places.{has}
use Rattle.grid_formulas.specs.Readers.{IsBelow, above}
use Rattle.grid_formulas.proofs.spans.push_between.Given as goal

-- each place stands below a node that was added, or below one of those that are left of a level
abbrev pub invariant-levels : goal.invariant-levels
invariant-levels l =
    ((q : ℕ) → has l.initial.nodes.items q ≡ true → has l.nodes.items q ≡ true)
    × (level : ℕ) × ((q : ℕ) → l.first ≤ q → q ≤ l.last → IsBelow l.nodes.items q ⊎ ((l.low ≤ above level q) × (above level q ≤ l.high)))

abbrev pub decreases-levels : goal.decreases-levels
decreases-levels l = l.high
