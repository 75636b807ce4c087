use Rattle.std.proofs.Common.{◌≡◌, ◌+◌, ◌≤◌, ◌^◌, length, vec_len, vec_capacity}
use Rattle.turn_lock.specs.Places.{total}
use Rattle.host_table.specs.Close.{weight_of}
use Rattle.wopi_program.specs.Passes.{AreReady}
use Rattle.wopi_program.proofs.crew.split_all.Given as goal

abbrev pub invariant-splits : goal.invariant-splits
invariant-splits g l = record {
  some : 1 ≤ length l.passes.items;
  ready : AreReady l.fn.host 0 l.passes.items;
  made : l.host.made ≡ length l.passes.items;
  host : l.host ≡ record l.fn.host { made = l.host.made };
  weights : total weight_of l.passes.items ≡ 2 ^ 62;
  many : length l.passes.items + length l.rooms.items ≡ length l.initial.rooms.items + 1;
  room : length l.initial.rooms.items + 1 ≤ vec_capacity l.passes;
}

abbrev pub decreases-splits : goal.decreases-splits
decreases-splits g l = vec_len l.rooms
