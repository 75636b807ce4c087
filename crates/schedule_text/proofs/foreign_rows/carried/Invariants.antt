use Rattle.std.proofs.Common.{length, drop, ◌-◌, ◌≡◌, ◌≤◌}
use Rattle.schedule_text.specs.Schedules.{carried}
use Rattle.schedule_text.proofs.foreign_rows.carried.Given as goal

abbrev pub invariant-spaces : goal.invariant-spaces
invariant-spaces l = (l.front ≤ length l.name) × (carried (drop l.front l.name) ≡ carried l.name)

abbrev pub decreases-spaces : goal.decreases-spaces
decreases-spaces l = length l.name - l.front
