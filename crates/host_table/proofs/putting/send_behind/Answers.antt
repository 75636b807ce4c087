use Rattle.std.proofs.Common.{[]}
use Rattle.host_table.proofs.WritingLemmas.{gathered_then, cut_longer, cut_after, written, written_cut}
use Rattle.host_table.proofs.putting.send_behind.Goals as goal

pub returns-in-Err-clause-bytes : goal.returns-in-Err-clause-bytes
returns-in-Err-clause-bytes g c = cut_longer _ _ c.args.room.now.bytes.items [] c.args.text.now c.in-Err.ensures.bytes

pub returns-in-Ok-write_whole-clause-bytes : goal.returns-in-Ok-write_whole-clause-bytes
returns-in-Ok-write_whole-clause-bytes g c =
    let q = c.send.new.room.bytes.items in
    gathered_then _ _ _ c.args.room.now.bytes.items q q [] c.args.text.now c.in-Ok.ensures.bytes (written _ _ q c.args.text.now c.in-Ok.ensures.none c.in-Ok-write_whole.ensures.whole)

pub returns-in-Err-write_whole-clause-bytes : goal.returns-in-Err-write_whole-clause-bytes
returns-in-Err-write_whole-clause-bytes g c =
    let q = c.send.new.room.bytes.items in
    cut_after _ _ _ c.args.room.now.bytes.items q [] c.args.text.now c.in-Ok.ensures.bytes (written_cut _ _ q c.args.text.now c.in-Ok.ensures.none c.in-Err-write_whole.ensures.prefix)
