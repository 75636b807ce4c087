use Rattle.std.proofs.Common.{◌≤◌, ◌-◌, length, vec_len}
use Rattle.wopi_program.proofs.crew.split_rooms.Given as goal

abbrev pub invariant-rooms : goal.invariant-rooms
invariant-rooms g l = length l.rooms.items ≤ l.count

abbrev pub decreases-rooms : goal.decreases-rooms
decreases-rooms g l = l.count - vec_len l.rooms
