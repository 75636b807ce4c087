use Rattle.std.proofs.Common.{◌≡◌, ◌≤◌, ◌-◌, ◌++◌, length, map, take, drop}
use Rattle.host_core.specs.Going.{kept_on, locks_in}
use Rattle.host_core.proofs.going.take_on_found.Given as goal

abbrev pub invariant-files : goal.invariant-files
invariant-files l =
    (l.place ≤ length l.initial.files.items)
    × (l.files.items ≡ map (kept_on l.life) (take l.place l.initial.files.items) ++ drop l.place l.initial.files.items)
    × (l.told.items ≡ map (locks_in l.life) (take l.place l.initial.files.items))

abbrev pub decreases-files : goal.decreases-files
decreases-files l = length l.files.items - l.place
