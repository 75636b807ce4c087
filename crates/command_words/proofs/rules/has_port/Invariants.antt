use Rattle.std.proofs.Common.{ℕ, ◌<◌, IsTrue}
use Rattle.command_words.specs.Rules.{splits_at}
use Rattle.command_words.proofs.rules.has_port.Given as goal

-- no earlier place parts a name from a port
abbrev pub invariant-places : goal.invariant-places
invariant-places l = (place : ℕ) → 0 < place → place < l.place → IsTrue (splits_at l.word place) → ⊥
