use Rattle.std.proofs.Common.{◌∙◌, arith}
use Rattle.host_table.proofs.WritingLemmas.{pieces_more, pieces_cut}
use Rattle.host_log.specs.Rows.{spent_line}
use Rattle.host_log.proofs.writing.put_all_spent.Goals as goal

pub returns-in-Err-clause-bytes : goal.returns-in-Err-clause-bytes
returns-in-Err-clause-bytes g c =
    let line = rw c.spent_pieces.ensures at c.in-Err.ensures.bytes in
    pieces_cut (spent_line c.args.name.now) c.args.spent.now c.ids.one-index c.one-item.result c.one-item.result _ _ _ _ _ c.ids-test.true c.one-item.is c.ids.invariant.written line

pub ids-preserved : goal.ids-preserved
ids-preserved g c =
    let line = rw c.spent_pieces.ensures at c.in-Ok.ensures.bytes in
    record {
      written = pieces_more (spent_line c.args.name.now) c.args.spent.now c.ids.one-index c.one-item.result c.one-item.result _ _ _ _ _ _ c.ids-test.true c.one-item.is c.ids.invariant.written line;
      beside = c.put_pieces.ensures.beside ∙ c.ids.invariant.beside;
      counts = omega (arith, c.ids.invariant.counts, c.put_pieces.ensures.never_falls);
    }
