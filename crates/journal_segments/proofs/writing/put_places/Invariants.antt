use Rattle.std.proofs.Common.{◌≡◌, ◌≤◌, take}
use Rattle.std.specs.List.{flat_map}
use Rattle.host_table.specs.Writing.{IsGathered}
use Rattle.journal_segments.specs.Openings.{place_text}
use Rattle.journal_segments.proofs.writing.put_places.Given as goal

abbrev pub invariant-files : goal.invariant-files
invariant-files g l = record {
  written : IsGathered (g.K.Sink.held l.fn.sink) (g.K.Sink.held l.sink) l.fn.room.bytes.items l.room.bytes.items (flat_map place_text (take l.file-index l.files));
  beside : g.K.Sink.beside_writes l.sink ≡ g.K.Sink.beside_writes l.fn.sink;
  counts : g.K.Sink.write_faults l.fn.sink ≤ g.K.Sink.write_faults l.sink;
}
