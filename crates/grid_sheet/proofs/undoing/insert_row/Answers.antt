use Rattle.grid_sheet.specs.Rows.{rows_of}
use Rattle.grid_sheet.proofs.UndoLemmas.{undoes_insert_row}
use Rattle.grid_sheet.proofs.undoing.insert_row.Goals as goal

pub returns-in-Ok-clause-ok : goal.returns-in-Ok-clause-ok
returns-in-Ok-clause-ok c = undoes_insert_row (rows_of c.args.rows.now.items) (rows_of c.insert_row.new.rows.items) c.args.row c.in-Ok.ensures.ok
