use Rattle.std.proofs.Common.{◌≡◌, ◌≤◌, ◌++◌, take}
use Rattle.std.specs.List.{flat_map}
use Rattle.wopi_http.specs.Replies.{Gathers}
use Rattle.wopi_http.proofs.writing.put_pieces.Given as goal

abbrev pub invariant-loop-piece : goal.invariant-loop-piece
invariant-loop-piece g l = record {
  put : Gathers (g.K.Sink.held l.initial.sink) (g.K.Sink.held l.sink) l.waiting.items (l.initial.waiting.items ++ flat_map (λ p. p.now) (take l.piece-index l.pieces));
  beside : g.K.Sink.beside_writes l.sink ≡ g.K.Sink.beside_writes l.initial.sink;
  never_falls : g.K.Sink.write_faults l.initial.sink ≤ g.K.Sink.write_faults l.sink;
}
