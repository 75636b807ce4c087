use Rattle.std.proofs.Common.{◌≡◌, ◌≤◌, take}
use Rattle.std.specs.List.{flat_map}
use Rattle.host_table.specs.Pieces.{piece_text}
use Rattle.host_table.specs.Writing.{IsGathered}
use Rattle.host_table.proofs.putting.put_pieces.Given as goal

abbrev pub invariant-pieces : goal.invariant-pieces
invariant-pieces g l = record {
  written : IsGathered (g.K.Sink.held l.fn.sink) (g.K.Sink.held l.sink) l.fn.room.bytes.items l.room.bytes.items (flat_map piece_text (take l.piece-index l.pieces));
  beside : g.K.Sink.beside_writes l.sink ≡ g.K.Sink.beside_writes l.fn.sink;
  counts : g.K.Sink.write_faults l.fn.sink ≤ g.K.Sink.write_faults l.sink;
}
