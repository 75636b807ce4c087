use Rattle.std.proofs.Common.{◌≡◌, ◌∙◌, true, refl, sym, rules}
use Rattle.csv.specs.Records.{fields_of}
use Rattle.grid_sheet.specs.Rows.{is_column, rows_of}
use Rattle.grid_sheet.specs.Edits.{is_full}
use Rattle.grid_sheet.proofs.RowLemmas.{IsGrid-with_column, list_any-map}
use Rattle.grid_sheet.proofs.edits.insert_column.Goals as goal

pub returns-then-any_full-clause-refused : goal.returns-then-any_full-clause-refused
returns-then-any_full-clause-refused c =
    let column : is_column c.args.column ≡ true = search rules in
    let full = list_any-map (is_full c.args.column) fields_of c.args.rows.now.items ∙ sym c.any_full.ensures ∙ c.if-any_full.true in
    rw (column, full) refl

pub returns-in_err-rows-clause-refused : goal.returns-in_err-rows-clause-refused
returns-in_err-rows-clause-refused c =
    let column : is_column c.args.column ≡ true = search rules in
    let full = list_any-map (is_full c.args.column) fields_of c.args.rows.now.items ∙ sym c.any_full.ensures ∙ c.if-any_full.false in
    rw (column, full) (search rules)

pub returns-clause-grid : goal.returns-clause-grid
returns-clause-grid c =
    let full = list_any-map (is_full c.args.column) fields_of c.args.rows.now.items ∙ sym c.any_full.ensures ∙ c.if-any_full.false in
    rw c.in_ok-rows.ensures (IsGrid-with_column c.args.column (rows_of c.args.rows.now.items) c.requires full)

pub returns-clause-ok : goal.returns-clause-ok
returns-clause-ok c =
    let column : is_column c.args.column ≡ true = search rules in
    let full = list_any-map (is_full c.args.column) fields_of c.args.rows.now.items ∙ sym c.any_full.ensures ∙ c.if-any_full.false in
    rw (c.in_ok-rows.ensures, column, full) refl
