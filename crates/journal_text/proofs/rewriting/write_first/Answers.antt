use Rattle.std.proofs.Common.{List, ℕ, subst}
use Rattle.host_table.specs.Writing.{IsGathered}
use Rattle.host_table.proofs.WritingLemmas.{all_sent}
use Rattle.journal_text.specs.declared.text.Format.TheVariants.{Second}
use Rattle.journal_text.specs.Journals.{rows_of, text_of}
use Rattle.journal_text.proofs.rewriting.write_first.Goals as goal

pub returns-clause-bytes : goal.returns-clause-bytes
returns-clause-bytes g c =
    let put = c.in-Ok.ensures.bytes in
    let whole = subst (λ (l : List ℕ). IsGathered (g.K.Sink.held c.args.sink.now) (g.K.Sink.held c.put_rows.new.sink) l c.put_rows.new.room.bytes.items (text_of (rows_of Second put.0))) c.clear.ensures.items put.2 in
    (put.0, put.1, all_sent _ _ _ c.put_rows.new.room.bytes.items c.send.new.room.bytes.items (text_of (rows_of Second put.0)) _ whole c.send.ensures.bytes c.send.ensures.none)
