use Rattle.std.proofs.Common.{◌≡◌, ◌≤◌, length}
use Rattle.host_table.proofs.WritingLemmas.{IsHexed}
use Rattle.host_table.proofs.putting.put_hex.Given as goal

abbrev pub invariant-steps : goal.invariant-steps
invariant-steps g l = record {
  written : IsHexed (g.K.Sink.held l.fn.sink) (g.K.Sink.held l.sink) l.fn.room.bytes.items l.room.bytes.items l.bytes l.rest;
  beside : g.K.Sink.beside_writes l.sink ≡ g.K.Sink.beside_writes l.fn.sink;
  counts : g.K.Sink.write_faults l.fn.sink ≤ g.K.Sink.write_faults l.sink;
}

abbrev pub decreases-steps : goal.decreases-steps
decreases-steps g l = length l.rest
