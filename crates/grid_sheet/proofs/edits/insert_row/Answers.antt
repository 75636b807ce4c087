use Rattle.std.proofs.Common.{◌-◌, ◌+◌, ◌≤◌, ◌<◌, length, arith}
use Rattle.std.proofs.lemmas.List.{length-map}
use Rattle.csv.specs.Records.{fields_of}
use Rattle.grid_sheet.specs.Rows.{most_rows, rows_of}
use Rattle.grid_sheet.specs.Edits.{empty_row}
use Rattle.grid_sheet.proofs.RowLemmas.{IsGrid-insert, IsRow-empty_row, map-insert, after_insert_row_ok}
use Rattle.grid_sheet.proofs.edits.insert_row.Goals as goal

pub returns-clause-grid : goal.returns-clause-grid
returns-clause-grid c =
    let rows = c.args.rows.now.items in
    let n = length-map rows fields_of in
    let within : c.args.row - 1 ≤ length (rows_of rows) = omega (arith, c.args.rows.now.ok.0) in
    let room : length (rows_of rows) < most_rows = omega (arith, c.args.rows.now.ok.0) in
    rw (c.in_ok-insert.ensures.items, map-insert fields_of rows (c.args.row - 1) c.in_ok-added.added, c.in_ok-added.ensures) (
    IsGrid-insert (rows_of rows) (c.args.row - 1) empty_row within room c.requires IsRow-empty_row
    )

pub returns-clause-ok : goal.returns-clause-ok
returns-clause-ok c =
    let rows = c.args.rows.now.items in
    let n = length-map rows fields_of in
    let low : 0 < c.args.row = omega arith in
    let within : c.args.row ≤ length (rows_of rows) + 1 = omega (arith, c.args.rows.now.ok.0) in
    let room : length (rows_of rows) < most_rows = omega (arith, c.args.rows.now.ok.0) in
    rw (c.in_ok-insert.ensures.items, map-insert fields_of rows (c.args.row - 1) c.in_ok-added.added, c.in_ok-added.ensures) (
    after_insert_row_ok (rows_of rows) c.args.row low within room
    )
