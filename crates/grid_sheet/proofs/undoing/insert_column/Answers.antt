use Rattle.grid_sheet.specs.Rows.{rows_of}
use Rattle.grid_sheet.proofs.UndoLemmas.{undoes_insert_column}
use Rattle.grid_sheet.proofs.undoing.insert_column.Goals as goal

pub returns-in-Ok-clause-ok : goal.returns-in-Ok-clause-ok
returns-in-Ok-clause-ok c =
    undoes_insert_column (rows_of c.args.rows.now.items) (rows_of c.insert_column.new.rows.items) c.args.column c.requires.each c.in-Ok.ensures.ok
