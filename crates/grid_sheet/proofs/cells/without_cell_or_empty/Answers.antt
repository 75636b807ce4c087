use Rattle.std.proofs.Common.{◌≡◌, ◌∙◌, sym}
use Rattle.std.proofs.lemmas.Result.{IfOk-weaker}
use Rattle.csv.specs.Records.{fields_of}
use Rattle.std.specs.List.{remove}
use Rattle.grid_sheet.specs.Edits.{or_empty_row}
use Rattle.grid_sheet.proofs.CellLemmas.{or_empty_row-remove}
use Rattle.grid_sheet.proofs.cells.without_cell_or_empty.Goals as goal

pub returns : goal.returns
returns c =
    let cells = fields_of c.args.cells.now in
    let same = or_empty_row-remove cells c.args.place c.requires (λ one. c.if-len-eq1.false (c.len.ensures ∙ one)) in
    IfOk-weaker c.without_cell.result (λ row. fields_of row ≡ remove cells c.args.place) (λ row. fields_of row ≡ or_empty_row (remove cells c.args.place)) (λ row is. is ∙ sym same) c.without_cell.ensures
