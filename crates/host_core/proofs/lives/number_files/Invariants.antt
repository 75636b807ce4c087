use Rattle.std.proofs.Common.{◌≤◌, ◌-◌, length, take}
use Rattle.host_core.specs.Life.{life_names}
use Rattle.host_core.specs.Names.{AreOnce}
use Rattle.host_core.specs.Numbers.{IsNumbered}
use Rattle.host_core.proofs.lives.number_files.Given as goal

abbrev pub invariant-files : goal.invariant-files
invariant-files l =
    (l.place ≤ length l.files.items) × IsNumbered l.numbers (life_names (take l.place l.files.items)) × AreOnce (life_names (take l.place l.files.items))

abbrev pub decreases-files : goal.decreases-files
decreases-files l = length l.files.items - l.place
