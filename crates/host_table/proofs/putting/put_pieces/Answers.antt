use Rattle.std.proofs.Common.{arith, refl, ◌∙◌}
use Rattle.host_table.specs.Pieces.{piece_text}
use Rattle.host_table.proofs.WritingLemmas.{pieces_more, pieces_cut}
use Rattle.host_table.proofs.putting.put_pieces.Goals as goal

pub returns-in-Err-clause-bytes : goal.returns-in-Err-clause-bytes
returns-in-Err-clause-bytes g c =
    pieces_cut piece_text c.args.pieces.now c.pieces.piece-index _ _ _ _ _ _ _ c.pieces-test.true refl c.pieces.invariant.written c.in-Err.ensures.bytes

pub pieces-preserved : goal.pieces-preserved
pieces-preserved g c = record {
  written = pieces_more piece_text c.args.pieces.now c.pieces.piece-index _ _ _ _ _ _ _ _ c.pieces-test.true refl c.pieces.invariant.written c.in-Ok.ensures.bytes;
  beside = c.put_piece.ensures.beside ∙ c.pieces.invariant.beside;
  counts = omega (arith, c.pieces.invariant.counts, c.put_piece.ensures.never_falls);
}
