use Rattle.std.proofs.Common.{◌≡◌, ◌+◌, ◌≤◌, map, drop}
use Rattle.turn_lock.specs.Places.{times}
use Rattle.host_table.specs.Close.{number_of}
use Rattle.host_table.proofs.whole.count_of.Given as goal

abbrev pub invariant-loop-pass : goal.invariant-loop-pass
invariant-loop-pass g l = record {
  few : l.count ≤ l.pass-index;
  same : l.count + times l.number (map number_of (drop l.pass-index l.passes)) ≡ times l.number (map number_of l.passes);
}
