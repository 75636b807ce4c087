use Rattle.std.proofs.Common.{◌≡◌, ◌≤◌, ℕ, List, ◌++◌, length}
use Rattle.std.specs.Io.KnownBytes.{Appends}
use Rattle.outside.proofs.transfer.write_whole.Given as goal

abbrev pub invariant-loop-rest : goal.invariant-loop-rest
invariant-loop-rest g l = record {
  written : (front : List ℕ) × (l.piece ≡ front ++ l.rest) × Appends (g.K.Sink.held l.initial.sink) (g.K.Sink.held l.sink) front;
  beside : g.K.Sink.beside_writes l.sink ≡ g.K.Sink.beside_writes l.initial.sink;
  never_falls : g.K.Sink.write_faults l.initial.sink ≤ g.K.Sink.write_faults l.sink;
}

abbrev pub decreases-loop-rest : goal.decreases-loop-rest
decreases-loop-rest g l = length l.rest
