use Rattle.std.proofs.Common.{◌≤◌, ◌-◌, length, take}
use Rattle.std.specs.List.{AllByRecursion}
use Rattle.host_core.specs.Life.{MayGoOn}
use Rattle.host_core.proofs.lives.may_all_go_on.Given as goal

abbrev pub invariant-files : goal.invariant-files
invariant-files l = (l.place ≤ length l.files.items) × AllByRecursion (MayGoOn l.now l.last) (take l.place l.files.items)

abbrev pub decreases-files : goal.decreases-files
decreases-files l = length l.files.items - l.place
