use Rattle.std.proofs.Common.{◌≤◌, ◌-◌, length, take}
use Rattle.std.specs.List.{AllByRecursion}
use Rattle.host_core.specs.Opening.{MayKeep}
use Rattle.host_core.proofs.lives.are_own.Given as goal

abbrev pub invariant-files : goal.invariant-files
invariant-files l = (l.place ≤ length l.files.items) × AllByRecursion (λ file. MayKeep l.only file.name) (take l.place l.files.items)

abbrev pub decreases-files : goal.decreases-files
decreases-files l = length l.files.items - l.place
