use Rattle.std.proofs.Common.{◌≡◌, ◌≤◌, ◌-◌, length}
use Rattle.host_core.specs.Numbers.{IsNumbered, named}
use Rattle.host_core.proofs.Joins.{GoneSoFar}
use Rattle.host_core.proofs.going.take_on_gone.Given as goal

abbrev pub invariant-files : goal.invariant-files
invariant-files l =
    (l.place ≤ length l.life.files.items)
    × GoneSoFar l.life.now l.life.files.items l.place l.initial.stock.files.items l.stock.files.items l.initial.told.items l.told.items
    × IsNumbered l.stock.index (named l.stock.files.items)
    × (l.stock.bytes ≡ l.initial.stock.bytes)
    × (length l.stock.files.items ≤ 4000000000)

abbrev pub decreases-files : goal.decreases-files
decreases-files l = length l.life.files.items - l.place
