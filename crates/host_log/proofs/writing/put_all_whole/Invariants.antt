use Rattle.std.proofs.Common.{◌≡◌, ◌≤◌, ◌-◌, length, take}
use Rattle.std.specs.List.{flat_map}
use Rattle.host_core.specs.Whole.{joined}
use Rattle.host_table.specs.Writing.{IsGathered}
use Rattle.host_log.specs.Rows.{whole_text}
use Rattle.host_log.proofs.writing.put_all_whole.Given as goal

abbrev pub invariant-files : goal.invariant-files
invariant-files g l = record {
  few : l.place ≤ length l.files;
  written : IsGathered (g.L.Sink.held l.initial.log) (g.L.Sink.held l.log) l.initial.room.bytes.items l.room.bytes.items (flat_map whole_text (take l.place (joined l.files l.locks)));
  beside : g.L.Sink.beside_writes l.log ≡ g.L.Sink.beside_writes l.initial.log;
  counts : g.L.Sink.write_faults l.initial.log ≤ g.L.Sink.write_faults l.log;
}

abbrev pub decreases-files : goal.decreases-files
decreases-files g l = length l.files - l.place
