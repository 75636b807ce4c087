use Rattle.std.proofs.Common.{◌∷◌}
use Rattle.host_table.specs.Pieces.{head_text}
use Rattle.host_table.specs.Text.{space, act_text, token_fields}
use Rattle.host_core.specs.Entries.{kept_act}
use Rattle.host_table.proofs.WritingLemmas.{gathers_then, cut_longer, cut_after}
use Rattle.host_table.proofs.writing.put_call.Goals as goal

pub returns-in-Err-clause-bytes : goal.returns-in-Err-clause-bytes
returns-in-Err-clause-bytes g c =
    let head = rw c.entry_head.ensures at c.in-Err.ensures.bytes in
    cut_longer _ _ _ (head_text c.args.entry.now) _ head

pub returns-in-Err-put_pieces-clause-bytes : goal.returns-in-Err-put_pieces-clause-bytes
returns-in-Err-put_pieces-clause-bytes g c =
    let head = rw c.entry_head.ensures at c.in-Ok.ensures.bytes in
    let act = rw c.act.ensures at (rw c.act_pieces.ensures at c.in-Err-put_pieces.ensures.bytes) in
    cut_after _ _ _ _ _ (head_text c.args.entry.now) _ head (cut_longer _ _ _ (space ∷ act_text (kept_act c.args.entry.now.step.call.act)) _ act)

pub returns-clause-bytes : goal.returns-clause-bytes
returns-clause-bytes g c =
    let head = rw c.entry_head.ensures at c.in-Ok.ensures.bytes in
    let act = rw c.act.ensures at (rw c.act_pieces.ensures at c.in-Ok-put_pieces.ensures.bytes) in
    let token = rw c.token.ensures at (rw c.token_pieces.ensures at c.put_pieces-3.ensures.bytes) in
    gathers_then _ _ _ _ _ _ _ (head_text c.args.entry.now) _ head
    (gathers_then _ _ _ _ _ _ _ (space ∷ act_text (kept_act c.args.entry.now.step.call.act)) (space ∷ token_fields c.args.entry.now.step.call.token) act token)
