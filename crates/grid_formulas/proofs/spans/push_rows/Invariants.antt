use Rattle.std.proofs.Common.{◌≡◌, ◌≤◌, ◌<◌, ◌+◌, ◌*◌, ℕ, true}
use Rattle.grid_formulas.specs.Places.{has}
use Rattle.grid_formulas.specs.Readers.{IsBelow}
use Rattle.grid_formulas.proofs.spans.push_rows.Given as goal

abbrev pub invariant-rows : goal.invariant-rows
invariant-rows l =
    ((q : ℕ) → has l.initial.nodes.items q ≡ true → has l.nodes.items q ≡ true)
    × ((row q : ℕ) → row < l.row → l.span.first + 1024 * row ≤ q → q ≤ l.span.first + 1024 * row + l.span.last_column → IsBelow l.nodes.items q)
