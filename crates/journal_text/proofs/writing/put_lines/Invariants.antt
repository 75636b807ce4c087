use Rattle.std.proofs.Common.{◌≤◌, take}
use Rattle.std.specs.List.{flat_map}
use Rattle.host_table.specs.Writing.{IsGathered}
use Rattle.journal_text.specs.declared.text.Format.TheVariants.{Second}
use Rattle.journal_text.specs.Journals.{line_text}
use Rattle.journal_text.proofs.writing.put_lines.Given as goal

abbrev pub invariant-lines : goal.invariant-lines
invariant-lines g l = record {
  written : IsGathered (g.K.Sink.held l.fn.sink) (g.K.Sink.held l.sink) l.fn.room.bytes.items l.room.bytes.items (flat_map (line_text Second) (take l.line-index l.lines));
  counts : g.K.Sink.write_faults l.fn.sink ≤ g.K.Sink.write_faults l.sink;
}
