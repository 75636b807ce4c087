use Rattle.std.proofs.Common.{◌≤◌, ◌-◌, length, take}
use Rattle.std.specs.List.{AllByRecursion}
use Rattle.host_table.specs.Reopen.{IsOf}
use Rattle.host_table.proofs.reopening.are_of_one.Given as goal

abbrev pub invariant-lives : goal.invariant-lives
invariant-lives l = (l.place ≤ length l.lives.items) × AllByRecursion (IsOf l.opened l.first) (take l.place l.lives.items)

abbrev pub decreases-lives : goal.decreases-lives
decreases-lives l = length l.lives.items - l.place
