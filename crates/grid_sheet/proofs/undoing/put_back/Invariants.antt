use Rattle.std.proofs.Common.{◌≡◌, ◌++◌, drop}
use Rattle.csv.specs.Records.{fields_of}
use Rattle.grid_sheet.specs.Rows.{rows_of}
use Rattle.grid_sheet.specs.Undoing.{all_put_back}
use Rattle.grid_sheet.proofs.undoing.put_back.Given as goal

abbrev pub invariant-rows : goal.invariant-rows
invariant-rows l =
    rows_of l.edited.items ++ all_put_back l.column (drop l.place l.kept.had.items) (drop l.place (fields_of l.kept.texts)) (drop l.place (rows_of l.rows.items))
    ≡ all_put_back l.column l.kept.had.items (fields_of l.kept.texts) (rows_of l.rows.items)
