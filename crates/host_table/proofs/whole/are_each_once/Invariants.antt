use Rattle.std.proofs.Common.{◌≡◌, ◌<◌, ℕ, map}
use Rattle.turn_lock.specs.Places.{times}
use Rattle.host_table.specs.Close.{number_of}
use Rattle.host_table.proofs.whole.are_each_once.Given as goal

abbrev pub invariant-loop-number : goal.invariant-loop-number
invariant-loop-number g l = (number : ℕ) → number < l.number → times number (map number_of l.passes) ≡ 1
