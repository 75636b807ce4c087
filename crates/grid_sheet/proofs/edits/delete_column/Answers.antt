use Rattle.std.proofs.Common.{◌≡◌, ◌∙◌, true, false, refl, sym, rules}
use Rattle.csv.specs.Records.{fields_of}
use Rattle.grid_sheet.specs.Rows.{Cells, has_cell, rows_of}
use Rattle.grid_sheet.proofs.RowLemmas.{IsGrid-without_column, list_any-map}
use Rattle.grid_sheet.proofs.edits.delete_column.Goals as goal

pub returns-then-not-any_has_cell-clause-refused :
    goal.returns-then-not-any_has_cell-clause-refused
returns-then-not-any_has_cell-clause-refused c =
    let answer : c.any_has_cell.result ≡ false = search rules in
    let none = list_any-map (λ (cells : Cells). has_cell cells c.args.column) fields_of c.args.rows.now.items ∙ sym c.any_has_cell.ensures ∙ answer in
    rw none refl

pub returns-in_err-rows-clause-refused : goal.returns-in_err-rows-clause-refused
returns-in_err-rows-clause-refused c =
    let answer : c.any_has_cell.result ≡ true = search rules in
    let some = list_any-map (λ (cells : Cells). has_cell cells c.args.column) fields_of c.args.rows.now.items ∙ sym c.any_has_cell.ensures ∙ answer in
    rw some (search rules)

pub returns-clause-grid : goal.returns-clause-grid
returns-clause-grid c = rw c.in_ok-rows.ensures (IsGrid-without_column c.args.column (rows_of c.args.rows.now.items) c.requires)

pub returns-clause-ok : goal.returns-clause-ok
returns-clause-ok c =
    let answer : c.any_has_cell.result ≡ true = search rules in
    let some = list_any-map (λ (cells : Cells). has_cell cells c.args.column) fields_of c.args.rows.now.items ∙ sym c.any_has_cell.ensures ∙ answer in
    rw (c.in_ok-rows.ensures, some) refl
