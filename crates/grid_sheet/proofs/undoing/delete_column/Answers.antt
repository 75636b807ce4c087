use Rattle.std.proofs.Common.{◌≡◌, ◌∙◌, true, false, refl, sym, rules}
use Rattle.csv.specs.Records.{fields_of}
use Rattle.grid_sheet.specs.Rows.{Cells, has_cell, rows_of}
use Rattle.grid_sheet.proofs.RowLemmas.{list_any-map}
use Rattle.grid_sheet.proofs.UndoLemmas.{undoes_delete_column}
use Rattle.grid_sheet.proofs.undoing.delete_column.Goals as goal

pub returns-then-not-any_has_cell-clause-refused : goal.returns-then-not-any_has_cell-clause-refused
returns-then-not-any_has_cell-clause-refused c =
    let answer : c.any_has_cell.result ≡ false = search rules in
    let none = list_any-map (λ (cells : Cells). has_cell cells c.args.column) fields_of c.args.rows.now.items ∙ sym c.any_has_cell.ensures ∙ answer in
    rw none refl

pub returns-in_err-kept-clause-refused : goal.returns-in_err-kept-clause-refused
returns-in_err-kept-clause-refused c =
    let answer : c.any_has_cell.result ≡ true = search rules in
    let some = list_any-map (λ (cells : Cells). has_cell cells c.args.column) fields_of c.args.rows.now.items ∙ sym c.any_has_cell.ensures ∙ answer in
    rw some (search rules)

pub returns-in-Ok-clause-ok : goal.returns-in-Ok-clause-ok
returns-in-Ok-clause-ok c =
    undoes_delete_column (rows_of c.args.rows.now.items) (rows_of c.delete_column.new.rows.items) c.args.column c.in_ok-kept.kept c.in-Ok.ensures.ok
    c.in_ok-kept.ensures.had c.in_ok-kept.ensures.texts
