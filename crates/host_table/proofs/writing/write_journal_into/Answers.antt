use Rattle.std.proofs.Common.{List, ℕ, subst}
use Rattle.host_table.specs.Writing.{IsGathered}
use Rattle.host_table.specs.Text.{journal_text}
use Rattle.host_table.proofs.WritingLemmas.{all_sent}
use Rattle.host_table.proofs.writing.write_journal_into.Goals as goal

pub returns-clause-bytes : goal.returns-clause-bytes
returns-clause-bytes g c =
    let text = journal_text c.args.journal.now in
    let first = subst (λ (l : List ℕ). IsGathered (g.K.Sink.held c.args.sink.now) (g.K.Sink.held c.put_lines.new.sink) l c.put_lines.new.room.bytes.items text) c.clear.ensures.items c.in-Ok.ensures.bytes in
    all_sent _ _ _ c.put_lines.new.room.bytes.items c.send.new.room.bytes.items text _ first c.send.ensures.bytes c.send.ensures.none
