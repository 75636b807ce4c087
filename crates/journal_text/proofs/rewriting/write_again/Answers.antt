use Rattle.journal_text.proofs.Again.{written_whole}
use Rattle.journal_text.proofs.rewriting.write_again.Goals as goal

pub returns-in-Second-clause-bytes : goal.returns-in-Second-clause-bytes
returns-in-Second-clause-bytes g c =
    let read = c.requires in
    (read.0, read.1, written_whole _ _ c.args.bytes.now c.args.reader.now read.0 c.write_whole.result read.1 c.in-Second.is c.write_whole.ensures.whole c.write_whole.ensures.prefix)
