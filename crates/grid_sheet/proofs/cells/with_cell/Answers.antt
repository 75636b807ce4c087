use Rattle.std.proofs.Common.{◌∙◌, ◌++◌, ◌∷◌, [], ap}
use Rattle.csv.specs.Records.{fields_of}
use Rattle.grid_sheet.proofs.CellLemmas.{with_cell_joined}
use Rattle.grid_sheet.proofs.cells.with_cell.Goals as goal

pub returns : goal.returns
returns c =
    let text = ap (λ p. p ++ c.args.text.now) c.in_ok-add_empty_cells.ensures.whole in
    let pushed = c.in_ok-push_field.ensures.fields ∙ ap (λ x. fields_of c.add_empty_cells.new.row ++ x ∷ []) text in
    with_cell_joined (fields_of c.args.cells.now) c.args.column c.args.text.now c.len-len.result c.min-before.result c.min.result
    (fields_of c.in_ok-row.row) (fields_of c.copy_cells.new.row) (fields_of c.add_empty_cells.new.row) (fields_of c.push_field.new.self) (fields_of c.copy_cells-2.new.row)
    c.requires c.len-len.ensures c.min-before.ensures c.min.ensures c.in_ok-row.ensures.cells c.in_ok-copy_cells.ensures.cells c.in_ok-add_empty_cells.ensures.cells pushed c.in_ok-copy_cells-2.ensures.cells
