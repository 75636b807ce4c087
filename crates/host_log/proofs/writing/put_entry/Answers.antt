use Rattle.host_core.specs.Entries.{ruled}
use Rattle.host_log.proofs.Texts.{entry_cut, entry_gathered}
use Rattle.host_log.proofs.writing.put_entry.Goals as goal

pub returns-in-Err-clause-bytes : goal.returns-in-Err-clause-bytes
returns-in-Err-clause-bytes g c = entry_cut _ _ _ (ruled c.args.ruling.now c.args.begun.now) c.in-Err.ensures.bytes

pub returns-clause-bytes : goal.returns-clause-bytes
returns-clause-bytes g c =
    let end = rw c.requires at c.put_told.ensures.bytes in
    entry_gathered _ _ _ _ _ _ _ (ruled c.args.ruling.now c.args.begun.now) c.in-Ok.ensures.bytes end
