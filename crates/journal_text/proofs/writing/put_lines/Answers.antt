use Rattle.std.proofs.Common.{arith}
use Rattle.journal_text.specs.declared.text.Format.TheVariants.{Second}
use Rattle.journal_text.specs.Journals.{line_text}
use Rattle.host_table.proofs.WritingLemmas.{pieces_more, pieces_cut}
use Rattle.journal_text.proofs.writing.put_lines.Goals as goal

pub returns-in-Err-clause-bytes : goal.returns-in-Err-clause-bytes
returns-in-Err-clause-bytes g c =
    pieces_cut (line_text Second) c.args.lines.now c.lines.line-index c.line-item.result c.line-item.result _ _ _ _ _ c.lines-test.true c.line-item.is c.lines.invariant.written c.in-Err.ensures.bytes

pub lines-preserved : goal.lines-preserved
lines-preserved g c = record {
  written = pieces_more (line_text Second) c.args.lines.now c.lines.line-index c.line-item.result c.line-item.result _ _ _ _ _ _ c.lines-test.true c.line-item.is c.lines.invariant.written c.in-Ok.ensures.bytes;
  counts = omega (arith, c.lines.invariant.counts, c.put_line.ensures.never_falls);
}
