use Rattle.std.proofs.Common.{◌≡◌, take, map}
use Rattle.grid_sheet.specs.Rows.{rows_of}
use Rattle.grid_sheet.specs.Edits.{with_column}
use Rattle.grid_sheet.proofs.edits.with_column.Given as goal

abbrev pub invariant-rows : goal.invariant-rows
invariant-rows l = rows_of l.edited.items ≡ map (with_column l.column) (rows_of (take l.cells-index l.rows.items))
