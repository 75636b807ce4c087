use Rattle.std.proofs.Common.{◌≡◌, ◌≤◌, ◌-◌, length, take}
use Rattle.host_core.specs.Life.{Mends, OpensDoubt}
use Rattle.host_core.proofs.mending.mend.Given as goal

abbrev pub invariant-files : goal.invariant-files
invariant-files g l =
    (l.place ≤ length l.files.items)
    × Mends (take l.place l.files.items) (g.F.Store.files l.initial.folder) (g.F.Store.files l.folder)
    × OpensDoubt l.files.items (g.F.Store.files l.initial.folder) (g.F.Store.files l.folder)
    × OpensDoubt l.files.items (g.F.Store.times l.initial.folder) (g.F.Store.times l.folder)
    × ((g.F.Store.notes l.folder).log ≡ (g.F.Store.notes l.initial.folder).log)
    × (g.F.Store.faults l.initial.folder ≤ g.F.Store.faults l.folder)

abbrev pub decreases-files : goal.decreases-files
decreases-files g l = length l.files.items - l.place
