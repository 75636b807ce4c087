use Rattle.std.proofs.Common.{◌≡◌, ℕ}
use Rattle.grid_formulas.specs.Readers.{above}
use Rattle.grid_formulas.proofs.spans.cover.Given as goal

-- the two nodes stand on one level above the first place and the last
abbrev pub invariant-levels : goal.invariant-levels
invariant-levels l = (level : ℕ) × (l.low ≡ above level l.first) × (l.high ≡ above level l.last)

abbrev pub decreases-levels : goal.decreases-levels
decreases-levels l = l.high
