use Rattle.std.proofs.Common.{◌≡◌, ◌+◌, ◌-◌, ◌^◌, min, drop}
use Rattle.turn_lock.specs.Places.{total}
use Rattle.host_table.specs.Close.{weight_of}
use Rattle.host_table.proofs.whole.weigh_whole.Given as goal

abbrev pub invariant-loop-pass : goal.invariant-loop-pass
invariant-loop-pass g l = min (l.sum + total weight_of (drop l.pass-index l.passes)) (2 ^ 64 - 1) ≡ min (total weight_of l.passes) (2 ^ 64 - 1)
