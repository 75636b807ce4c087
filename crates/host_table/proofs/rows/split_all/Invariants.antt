use Rattle.std.proofs.Common.{◌≡◌, ◌≤◌, map, take, vec_len, vec_capacity}
use Rattle.host_table.specs.Passes.{kept_half, given_half}
use Rattle.host_table.proofs.Fronts.{front}
use Rattle.host_table.proofs.rows.split_all.Given as goal

abbrev pub invariant-loop-i : goal.invariant-loop-i
invariant-loop-i g l = record {
  seats_are : l.seats.items ≡ front kept_half l.i l.initial.seats.items;
  new_are : l.new.items ≡ map given_half (take l.i l.initial.seats.items);
  long : vec_len l.seats ≡ vec_len l.initial.seats;
  room : vec_len l.initial.seats ≤ vec_capacity l.new;
}
