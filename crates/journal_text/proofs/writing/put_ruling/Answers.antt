use Rattle.std.proofs.Common.{◌∷◌, ◌++◌, []}
use Rattle.host_table.specs.Pieces.{told_text}
use Rattle.host_table.specs.Text.{space, line_feed, optional_hex}
use Rattle.host_table.proofs.WritingLemmas.{gathers_then, cut_longer}
use Rattle.journal_text.proofs.writing.put_ruling.Goals as goal

pub returns-in-Err-clause-bytes : goal.returns-in-Err-clause-bytes
returns-in-Err-clause-bytes g c =
    let l = c.args.line.now in
    let ruling = rw c.optional_lock-lock.ensures at (rw c.ruling_pieces-ruling.ensures at c.in-Err.ensures.bytes) in
    cut_longer _ _ _ (space ∷ told_text l.status (optional_hex l.lock) l.reason l.version) _ ruling

pub returns-clause-bytes : goal.returns-clause-bytes
returns-clause-bytes g c =
    let l = c.args.line.now in
    let ruling = rw c.optional_lock-lock.ensures at (rw c.ruling_pieces-ruling.ensures at c.in-Ok.ensures.bytes) in
    let end = rw c.contents_of.ensures at (rw c.end_pieces.ensures at c.put_pieces-2.ensures.bytes) in
    gathers_then _ _ _ _ _ _ _ (space ∷ told_text l.status (optional_hex l.lock) l.reason l.version)
    (space ∷ (optional_hex l.contents ++ line_feed ∷ [])) ruling end
