use Rattle.std.proofs.Common.{rules, arith, ◌∙◌, ◌++◌, ◌∷◌, [], ap}
use Rattle.csv.specs.Records.{fields_of}
use Rattle.grid_sheet.proofs.CellLemmas.{copied_more}
use Rattle.grid_sheet.proofs.cells.copy_cells.Goals as goal

pub cells-preserved : goal.cells-preserved
cells-preserved c =
    let row = fields_of c.cells.row in
    let cell = ap (λ p. p ++ c.cell_at.result.now) c.cells.invariant.whole ∙ c.cell_at.ensures in
    let pushed = c.in_ok-push_field.ensures.fields ∙ ap (λ x. row ++ x ∷ []) cell in
    record {
      copied = copied_more (fields_of c.args.row.now) row _ (fields_of c.args.from.now) c.args.start c.cells.place (omega arith) (omega arith) c.cells.invariant.copied pushed;
      whole = search rules;
    }
