use Rattle.std.proofs.Common.{◌∙◌, arith}
use Rattle.journal_segments.specs.Openings.{spent_text}
use Rattle.host_table.proofs.WritingLemmas.{pieces_more, pieces_cut}
use Rattle.journal_segments.proofs.writing.put_all_spent.Goals as goal

pub returns-in-Err-clause-bytes : goal.returns-in-Err-clause-bytes
returns-in-Err-clause-bytes g c =
    pieces_cut (spent_text c.args.name.now) c.args.spent.now c.ids.one-index c.one-item.result c.one-item.result _ _ _ _ _ c.ids-test.true c.one-item.is c.ids.invariant.written c.in-Err.ensures.bytes

pub ids-preserved : goal.ids-preserved
ids-preserved g c = record {
  written = pieces_more (spent_text c.args.name.now) c.args.spent.now c.ids.one-index c.one-item.result c.one-item.result _ _ _ _ _ _ c.ids-test.true c.one-item.is c.ids.invariant.written c.in-Ok.ensures.bytes;
  beside = c.put_spent.ensures.beside ∙ c.ids.invariant.beside;
  counts = omega (arith, c.ids.invariant.counts, c.put_spent.ensures.never_falls);
}
