use Rattle.grid_sheet.specs.Rows.{rows_of}
use Rattle.grid_sheet.proofs.UndoLemmas.{undoes_delete_row}
use Rattle.grid_sheet.proofs.undoing.delete_row.Goals as goal

pub returns-in-Ok-clause-ok : goal.returns-in-Ok-clause-ok
returns-in-Ok-clause-ok c =
    undoes_delete_row (rows_of c.args.rows.now.items) (rows_of c.delete_row.new.rows.items) c.args.row c.in-Ok.cells c.in-Ok.ensures.ok c.in-Ok.ensures.former
