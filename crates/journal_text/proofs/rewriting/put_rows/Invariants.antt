use Rattle.std.proofs.Common.{◌≤◌, length}
use Rattle.journal_text.specs.declared.text.JournalText.{JournalText}
use Rattle.journal_text.specs.SoFar.{IsReadBy}
use Rattle.journal_text.proofs.Again.{GoesOn}
use Rattle.journal_text.proofs.rewriting.put_rows.Given as goal

abbrev pub invariant-rows : goal.invariant-rows
invariant-rows g l = record {
  goes : (text : JournalText) × IsReadBy l.bytes l.reader text
      × GoesOn (g.K.Sink.held l.fn.sink) (g.K.Sink.held l.sink) l.fn.room.bytes.items l.room.bytes.items l.left l.nows text;
  counts : g.K.Sink.write_faults l.fn.sink ≤ g.K.Sink.write_faults l.sink;
}

abbrev pub decreases-rows : goal.decreases-rows
decreases-rows g l = length l.left
