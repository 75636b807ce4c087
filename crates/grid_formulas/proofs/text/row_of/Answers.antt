use Rattle.std.proofs.Common.{◌≡◌, ℕ, ◌+◌, ◌*◌, ◌++◌, ◌∷◌, [], length, sym, ◌∙◌, ap, arith}
use Rattle.std.proofs.lemmas.List.FromFn.{map-range_with_len_more}
use Rattle.grid_sheet.specs.Rows.{row_at}
use Rattle.grid_formulas.specs.Texts.{shown_at}
use Rattle.grid_formulas.proofs.Shown.{row_short}
use Rattle.grid_formulas.proofs.text.row_of.Goals as goal

pub overflow_add-row : goal.overflow_add-row
overflow_add-row c = omega (arith, c.requires.grid.few)

pub overflow_mul-row : goal.overflow_mul-row
overflow_mul-row c = omega (arith, c.requires.grid.few)

pub overflow_add-row-in-columns : goal.overflow_add-row-in-columns
overflow_add-row-in-columns c =
    let short = row_short c.args.sheet.now c.args.row c.requires.grid c.requires.there in
    let width : c.cells-column-end.result ≡ length (row_at c.args.sheet.now (c.args.row + 1)) = c.cells-column-end.ensures ∙ ap (λ g. length (row_at g (c.args.row + 1))) c.grid.ensures in
    omega (arith, c.requires.grid.few, short, width)

pub columns-preserved : goal.columns-preserved
columns-preserved c =
    let f = λ (column : ℕ). shown_at c.args.sheet.now (c.args.row * 1024 + column) in
    record {
      shown = c.in_ok-push_cell.ensures.fields ∙ ap (λ l. l ++ f c.columns.column ∷ []) c.columns.invariant.shown ∙ sym (map-range_with_len_more f 0 c.columns.column c.columns.column (omega arith));
      whole = c.in_ok-push_cell.ensures.whole;
    }
