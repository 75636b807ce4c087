use Rattle.std.proofs.Common.{◌∙◌, arith}
use Rattle.host_table.proofs.WritingLemmas.{pieces_more, pieces_cut}
use Rattle.host_log.specs.Rows.{opened_text}
use Rattle.host_log.proofs.writing.put_all_opened.Goals as goal

pub returns-in-Err-clause-bytes : goal.returns-in-Err-clause-bytes
returns-in-Err-clause-bytes g c =
    pieces_cut (opened_text c.args.first) c.args.files.now c.files.file-index c.file-item.result c.file-item.result _ _ _ _ _ c.files-test.true c.file-item.is c.files.invariant.written c.in-Err.ensures.bytes

pub files-preserved : goal.files-preserved
files-preserved g c = record {
  written = pieces_more (opened_text c.args.first) c.args.files.now c.files.file-index c.file-item.result c.file-item.result _ _ _ _ _ _ c.files-test.true c.file-item.is c.files.invariant.written c.in-Ok.ensures.bytes;
  beside = c.put_opened.ensures.beside ∙ c.files.invariant.beside;
  counts = omega (arith, c.files.invariant.counts, c.put_opened.ensures.never_falls);
}
