use Rattle.std.proofs.Common.{length, ◌-◌, ◌≤◌, drop, string_bytes}
use Rattle.utf7_text.specs.Readings.{ReadsUpTo}
use Rattle.utf7_text.proofs.reading.utf7_read.Given as goal

abbrev pub invariant-pieces : goal.invariant-pieces
invariant-pieces l = record {
  inside : l.at ≤ length l.bytes;
  read : ReadsUpTo l.bytes (drop l.at l.bytes) (string_bytes l.text);
}

abbrev pub decreases-pieces : goal.decreases-pieces
decreases-pieces l = length l.bytes - l.at
