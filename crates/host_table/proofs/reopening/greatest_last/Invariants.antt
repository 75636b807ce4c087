use Rattle.std.proofs.Common.{◌≡◌, ◌≤◌, ◌-◌, length, take}
use Rattle.host_table.specs.Reopen.{greatest_last}
use Rattle.host_table.proofs.reopening.greatest_last.Given as goal

abbrev pub invariant-shards : goal.invariant-shards
invariant-shards g l = (l.place ≤ length l.shards.items) × (l.last ≡ greatest_last (take l.place l.shards.items))

abbrev pub decreases-shards : goal.decreases-shards
decreases-shards g l = length l.shards.items - l.place
