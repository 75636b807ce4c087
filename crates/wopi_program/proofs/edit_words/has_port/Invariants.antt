use Rattle.std.proofs.Common.{ℕ, ◌<◌}
use Rattle.wopi_program.specs.EditWords.{SplitsAt}
use Rattle.wopi_program.proofs.edit_words.has_port.Given as goal

-- no earlier place parts a name from a port
abbrev pub invariant-places : goal.invariant-places
invariant-places l = (at : ℕ) → 0 < at → at < l.at → SplitsAt l.bytes at → ⊥
