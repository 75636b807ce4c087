use Rattle.std.proofs.Common.{◌≡◌, ◌≤◌, take}
use Rattle.std.specs.List.{flat_map}
use Rattle.host_table.specs.Writing.{IsGathered}
use Rattle.journal_segments.specs.Openings.{spent_text}
use Rattle.journal_segments.proofs.writing.put_all_spent.Given as goal

abbrev pub invariant-ids : goal.invariant-ids
invariant-ids g l = record {
  written : IsGathered (g.K.Sink.held l.fn.sink) (g.K.Sink.held l.sink) l.fn.room.bytes.items l.room.bytes.items (flat_map (spent_text l.name) (take l.one-index l.spent));
  beside : g.K.Sink.beside_writes l.sink ≡ g.K.Sink.beside_writes l.fn.sink;
  counts : g.K.Sink.write_faults l.fn.sink ≤ g.K.Sink.write_faults l.sink;
}
