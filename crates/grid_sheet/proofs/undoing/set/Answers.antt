use Rattle.csv.specs.Records.{fields_of}
use Rattle.grid_sheet.specs.Rows.{rows_of}
use Rattle.grid_sheet.proofs.UndoLemmas.{undoes_set}
use Rattle.grid_sheet.proofs.undoing.set.Goals as goal

pub returns-in-Ok-clause-ok : goal.returns-in-Ok-clause-ok
returns-in-Ok-clause-ok c =
    undoes_set (rows_of c.args.rows.now.items) (rows_of c.set.new.rows.items) c.args.row c.args.column c.args.text.now c.in-Ok.cells c.in-Ok.ensures.ok c.in-Ok.ensures.former
