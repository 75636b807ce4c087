use Rattle.host_table.proofs.WritingLemmas.{cut_longer, gathers_then}
use Rattle.host_log.specs.Rows.{head_line}
use Rattle.host_log.proofs.writing.put_start.Goals as goal

pub returns-in-Err-clause-bytes : goal.returns-in-Err-clause-bytes
returns-in-Err-clause-bytes g c =
    let s = c.args.start.now in
    let head = rw c.head_pieces.ensures at c.in-Err.ensures.bytes in
    cut_longer _ _ _ (head_line c.args.shard s.opened s.first s.time s.last) _ head

pub returns-clause-bytes : goal.returns-clause-bytes
returns-clause-bytes g c =
    let s = c.args.start.now in
    let head = rw c.head_pieces.ensures at c.in-Ok.ensures.bytes in
    gathers_then _ _ _ _ _ _ _ (head_line c.args.shard s.opened s.first s.time s.last) _ head c.put_files.ensures.bytes
