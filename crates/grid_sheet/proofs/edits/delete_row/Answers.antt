use Rattle.std.proofs.Common.{◌≡◌, ◌-◌, true, refl, rules}
use Rattle.csv.specs.Records.{fields_of}
use Rattle.grid_sheet.specs.Rows.{has_row, rows_of}
use Rattle.grid_sheet.proofs.RowLemmas.{IsGrid-remove, map-remove, place_of_row}
use Rattle.grid_sheet.proofs.edits.delete_row.Goals as goal

pub returns-clause-grid : goal.returns-clause-grid
returns-clause-grid c =
    let there : has_row (rows_of c.args.rows.now.items) c.args.row ≡ true = search rules in
    rw (c.remove-deleted.ensures.items, map-remove fields_of c.args.rows.now.items (c.args.row - 1)) (
    IsGrid-remove (rows_of c.args.rows.now.items) (c.args.row - 1) (place_of_row (rows_of c.args.rows.now.items) c.args.row there) c.requires
    )

pub returns-clause-ok : goal.returns-clause-ok
returns-clause-ok c =
    let there : has_row (rows_of c.args.rows.now.items) c.args.row ≡ true = search rules in
    rw (c.remove-deleted.ensures.items, map-remove fields_of c.args.rows.now.items (c.args.row - 1), there) refl
