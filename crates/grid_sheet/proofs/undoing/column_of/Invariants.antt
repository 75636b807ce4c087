use Rattle.std.proofs.Common.{◌≡◌, [], take, map}
use Rattle.csv.specs.Records.{fields_of, partial_of}
use Rattle.grid_sheet.specs.Rows.{rows_of}
use Rattle.grid_sheet.specs.Undoing.{had_of, text_in}
use Rattle.grid_sheet.proofs.undoing.column_of.Given as goal

abbrev pub invariant-rows : goal.invariant-rows
invariant-rows l = record {
  had : l.had.items ≡ map (had_of l.column) (rows_of (take l.cells-index l.rows.items));
  texts : fields_of l.texts ≡ map (text_in l.column) (rows_of (take l.cells-index l.rows.items));
  whole : partial_of l.texts ≡ [];
}
