use Rattle.std.proofs.Common.{◌-◌, ◌∙◌, set, ap}
use Rattle.std.proofs.lemmas.List.{map-set}
use Rattle.csv.specs.Records.{fields_of}
use Rattle.grid_sheet.specs.Rows.{rows_of}
use Rattle.grid_sheet.proofs.edits.put_row.Goals as goal

pub returns-clause-rows : goal.returns-clause-rows
returns-clause-rows c =
    map-set fields_of c.args.rows.now.items (c.args.row - 1) c.replace.new.dest
    ∙ ap (λ cells. set (rows_of c.args.rows.now.items) (c.args.row - 1) (fields_of cells)) c.replace.ensures.after
