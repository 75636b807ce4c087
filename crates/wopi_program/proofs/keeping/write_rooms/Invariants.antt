use Rattle.std.proofs.Common.{◌≤◌, ◌-◌, length, vec_len}
use Rattle.wopi_program.proofs.keeping.write_rooms.Given as goal

abbrev pub invariant-rooms : goal.invariant-rooms
invariant-rooms l = length l.rooms.items ≤ l.count

abbrev pub decreases-rooms : goal.decreases-rooms
decreases-rooms l = l.count - vec_len l.rooms
