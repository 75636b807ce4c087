use Rattle.std.proofs.Common.{◌∷◌, ◌++◌, []}
use Rattle.host_core.specs.Entries.{accepted_contents}
use Rattle.host_table.specs.Text.{space, line_feed, optional_hex, ruling_text}
use Rattle.host_table.proofs.WritingLemmas.{gathers_then, cut_longer}
use Rattle.host_table.proofs.writing.put_ruling.Goals as goal

pub returns-in-Err-clause-bytes : goal.returns-in-Err-clause-bytes
returns-in-Err-clause-bytes g c =
    let ruling = rw c.entry_ruling.ensures at c.in-Err.ensures.bytes in
    cut_longer _ _ _ (space ∷ ruling_text c.args.entry.now.step.ruling) _ ruling

pub returns-clause-bytes : goal.returns-clause-bytes
returns-clause-bytes g c =
    let ruling = rw c.entry_ruling.ensures at c.in-Ok.ensures.bytes in
    let end = rw c.requires at (rw c.end_pieces.ensures at c.put_pieces-2.ensures.bytes) in
    gathers_then _ _ _ _ _ _ _ (space ∷ ruling_text c.args.entry.now.step.ruling)
    (space ∷ (optional_hex (accepted_contents c.args.entry.now) ++ line_feed ∷ [])) ruling end
