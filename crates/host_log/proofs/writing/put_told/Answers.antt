use Rattle.std.proofs.Common.{◌∷◌}
use Rattle.host_table.specs.Text.{space, ruling_text}
use Rattle.host_table.proofs.WritingLemmas.{gathers_then, cut_longer}
use Rattle.host_log.proofs.writing.put_told.Goals as goal

pub returns-in-Err-clause-bytes : goal.returns-in-Err-clause-bytes
returns-in-Err-clause-bytes g c =
    let ruling = rw c.told_pieces.ensures at c.in-Err.ensures.bytes in
    cut_longer _ _ _ (space ∷ ruling_text c.args.ruling.now) _ ruling

pub returns-clause-bytes : goal.returns-clause-bytes
returns-clause-bytes g c =
    let ruling = rw c.told_pieces.ensures at c.in-Ok.ensures.bytes in
    let end = rw c.brought_pieces.ensures at c.put_pieces-2.ensures.bytes in
    gathers_then _ _ _ _ _ _ _ (space ∷ ruling_text c.args.ruling.now) _ ruling end
