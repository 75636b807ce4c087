use Rattle.std.proofs.Common.{◌≡◌, take, map}
use Rattle.grid_sheet.specs.Rows.{rows_of}
use Rattle.grid_sheet.specs.Edits.{without_column}
use Rattle.grid_sheet.proofs.edits.without_column.Given as goal

abbrev pub invariant-rows : goal.invariant-rows
invariant-rows l = rows_of l.edited.items ≡ map (without_column l.column) (rows_of (take l.cells-index l.rows.items))
