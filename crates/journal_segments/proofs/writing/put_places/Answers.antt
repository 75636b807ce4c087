use Rattle.std.proofs.Common.{◌∙◌, arith}
use Rattle.journal_segments.specs.Openings.{place_text}
use Rattle.host_table.proofs.WritingLemmas.{pieces_more, pieces_cut}
use Rattle.journal_segments.proofs.writing.put_places.Goals as goal

pub returns-in-Err-clause-bytes : goal.returns-in-Err-clause-bytes
returns-in-Err-clause-bytes g c =
    pieces_cut place_text c.args.files.now c.files.file-index c.file-item.result c.file-item.result _ _ _ _ _ c.files-test.true c.file-item.is c.files.invariant.written c.in-Err.ensures.bytes

pub files-preserved : goal.files-preserved
files-preserved g c = record {
  written = pieces_more place_text c.args.files.now c.files.file-index c.file-item.result c.file-item.result _ _ _ _ _ _ c.files-test.true c.file-item.is c.files.invariant.written c.in-Ok.ensures.bytes;
  beside = c.put_place.ensures.beside ∙ c.files.invariant.beside;
  counts = omega (arith, c.files.invariant.counts, c.put_place.ensures.never_falls);
}
