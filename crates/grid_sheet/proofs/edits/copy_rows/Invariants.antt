use Rattle.std.proofs.Common.{◌≡◌, take}
use Rattle.grid_sheet.specs.Rows.{rows_of}
use Rattle.grid_sheet.proofs.edits.copy_rows.Given as goal

abbrev pub invariant-rows : goal.invariant-rows
invariant-rows l = rows_of l.copy.items ≡ rows_of (take l.cells-index l.rows.items)
