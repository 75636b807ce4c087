use Rattle.std.proofs.Common.{◌≡◌, ◌≤◌, take}
use Rattle.std.specs.List.{flat_map}
use Rattle.host_table.specs.Writing.{IsGathered}
use Rattle.host_log.specs.Rows.{spent_line}
use Rattle.host_log.proofs.writing.put_all_spent.Given as goal

abbrev pub invariant-ids : goal.invariant-ids
invariant-ids g l = record {
  written : IsGathered (g.L.Sink.held l.fn.log) (g.L.Sink.held l.log) l.fn.room.bytes.items l.room.bytes.items (flat_map (spent_line l.name) (take l.one-index l.spent));
  beside : g.L.Sink.beside_writes l.log ≡ g.L.Sink.beside_writes l.fn.log;
  counts : g.L.Sink.write_faults l.fn.log ≤ g.L.Sink.write_faults l.log;
}
