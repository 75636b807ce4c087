use Rattle.std.proofs.Common.{◌≡◌, ◌≤◌, ◌-◌, length, take}
use Rattle.host_core.specs.Notes.{opening_listed}
use Rattle.host_core.specs.ShardView.{files_listed}
use Rattle.host_core.proofs.kept.copy_files.Given as goal

abbrev pub invariant-copies : goal.invariant-copies
invariant-copies l = (l.place ≤ length l.files) × (files_listed l.copies.items ≡ opening_listed (take l.place l.files))

abbrev pub decreases-copies : goal.decreases-copies
decreases-copies l = length l.files - l.place
