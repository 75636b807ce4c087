use Rattle.std.proofs.Common.{◌-◌, ◌∙◌, ap, sym}
use Rattle.csv.specs.Records.{fields_of}
use Rattle.grid_sheet.specs.Rows.{rows_of}
use Rattle.grid_sheet.specs.Undoing.{undone}
use Rattle.grid_sheet.proofs.RowLemmas.{map-insert, map-remove}
use Rattle.grid_sheet.proofs.undoing.take_back.Goals as goal

pub returns-in-TakeRow-clause-ok : goal.returns-in-TakeRow-clause-ok
returns-in-TakeRow-clause-ok c =
    ap rows_of c.remove-inserted.ensures.items ∙ map-remove fields_of c.args.rows.now.items (c.in-TakeRow.row - 1)
    ∙ ap (undone (rows_of c.args.rows.now.items)) (sym c.in-TakeRow.is)

pub returns-in_ok-insert-in-InsertRow-clause-ok : goal.returns-in_ok-insert-in-InsertRow-clause-ok
returns-in_ok-insert-in-InsertRow-clause-ok c =
    ap rows_of c.in_ok-insert-in-InsertRow.ensures.items ∙ map-insert fields_of c.args.rows.now.items (c.in-InsertRow.row - 1) c.in-InsertRow.cells
    ∙ ap (undone (rows_of c.args.rows.now.items)) (sym c.in-InsertRow.is)
