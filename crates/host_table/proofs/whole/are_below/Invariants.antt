use Rattle.std.proofs.Common.{◌<◌, take}
use Rattle.std.specs.List.{AllByRecursion}
use Rattle.host_table.proofs.whole.are_below.Given as goal

abbrev pub invariant-loop-pass : goal.invariant-loop-pass
invariant-loop-pass g l = AllByRecursion (λ pass. pass.number < l.made) (take l.pass-index l.passes)
