use Rattle.std.proofs.Common.{◌∷◌}
use Rattle.host_table.specs.Pieces.{place_text}
use Rattle.host_table.specs.Text.{space, act_text, token_fields}
use Rattle.host_table.proofs.WritingLemmas.{gathers_then, cut_longer, cut_after}
use Rattle.journal_text.proofs.writing.put_call.Goals as goal

pub returns-in-Err-clause-bytes : goal.returns-in-Err-clause-bytes
returns-in-Err-clause-bytes g c =
    let l = c.args.line.now in
    let head = rw c.head_pieces-head.ensures at c.in-Err.ensures.bytes in
    cut_longer _ _ _ (place_text l.stamp l.shard l.pass l.moment l.now l.name) _ head

pub returns-in-Err-put_pieces-clause-bytes : goal.returns-in-Err-put_pieces-clause-bytes
returns-in-Err-put_pieces-clause-bytes g c =
    let l = c.args.line.now in
    let head = rw c.head_pieces-head.ensures at c.in-Ok.ensures.bytes in
    let act = rw c.act_pieces.ensures at c.in-Err-put_pieces.ensures.bytes in
    cut_after _ _ _ _ _ (place_text l.stamp l.shard l.pass l.moment l.now l.name) _ head (cut_longer _ _ _ (space ∷ act_text l.act) _ act)

pub returns-clause-bytes : goal.returns-clause-bytes
returns-clause-bytes g c =
    let l = c.args.line.now in
    let head = rw c.head_pieces-head.ensures at c.in-Ok.ensures.bytes in
    let act = rw c.act_pieces.ensures at c.in-Ok-put_pieces.ensures.bytes in
    let token = rw c.token_pieces.ensures at c.put_pieces-3.ensures.bytes in
    gathers_then _ _ _ _ _ _ _ (place_text l.stamp l.shard l.pass l.moment l.now l.name) _ head
    (gathers_then _ _ _ _ _ _ _ (space ∷ act_text l.act) (space ∷ token_fields l.token) act token)
