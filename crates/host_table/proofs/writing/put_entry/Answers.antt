use Rattle.host_table.proofs.WritingLemmas.{entry_gathered, entry_cut}
use Rattle.host_table.proofs.writing.put_entry.Goals as goal

pub returns-in-Err-clause-bytes : goal.returns-in-Err-clause-bytes
returns-in-Err-clause-bytes g c = entry_cut _ _ _ c.args.entry.now c.in-Err.ensures.bytes

pub returns-clause-bytes : goal.returns-clause-bytes
returns-clause-bytes g c = entry_gathered _ _ _ _ _ _ _ c.args.entry.now c.in-Ok.ensures.bytes c.put_ruling.ensures.bytes
