use Rattle.std.proofs.Common.{◌∷◌}
use Rattle.wopi_text.specs.FileName.{shard_of}
use Rattle.host_core.specs.Entries.{kept_act}
use Rattle.host_table.specs.Pieces.{place_text}
use Rattle.host_table.specs.Text.{space, act_text, token_fields}
use Rattle.host_table.proofs.WritingLemmas.{gathers_then, cut_longer, cut_after}
use Rattle.host_log.proofs.writing.put_begun.Goals as goal

pub returns-in-Err-clause-bytes : goal.returns-in-Err-clause-bytes
returns-in-Err-clause-bytes g c =
    let one = c.args.begun.now in
    let head = rw c.head.ensures at c.in-Err.ensures.bytes in
    cut_longer _ _ _ (place_text one.stamp (shard_of one.call.name) one.pass one.moment one.time one.call.name) _ head

pub returns-in-Err-put_pieces-clause-bytes : goal.returns-in-Err-put_pieces-clause-bytes
returns-in-Err-put_pieces-clause-bytes g c =
    let one = c.args.begun.now in
    let head = rw c.head.ensures at c.in-Ok.ensures.bytes in
    let act = rw c.asks.ensures at c.in-Err-put_pieces.ensures.bytes in
    cut_after _ _ _ _ _ (place_text one.stamp (shard_of one.call.name) one.pass one.moment one.time one.call.name) _ head
    (cut_longer _ _ _ (space ∷ act_text (kept_act one.call.act)) _ act)

pub returns-clause-bytes : goal.returns-clause-bytes
returns-clause-bytes g c =
    let one = c.args.begun.now in
    let head = rw c.head.ensures at c.in-Ok.ensures.bytes in
    let act = rw c.asks.ensures at c.in-Ok-put_pieces.ensures.bytes in
    let token = rw c.token.ensures at c.put_pieces-3.ensures.bytes in
    gathers_then _ _ _ _ _ _ _ (place_text one.stamp (shard_of one.call.name) one.pass one.moment one.time one.call.name) _ head
    (gathers_then _ _ _ _ _ _ _ (space ∷ act_text (kept_act one.call.act)) (space ∷ token_fields one.call.token) act token)
