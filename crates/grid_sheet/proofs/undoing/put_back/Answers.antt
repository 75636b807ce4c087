use Rattle.std.proofs.Common.{◌∙◌, ◌<◌, ◌+◌, ◌++◌, length, drop, ap, arith, rules}
use Rattle.csv.specs.Records.{fields_of}
use Rattle.grid_sheet.specs.Rows.{rows_of}
use Rattle.grid_sheet.specs.Undoing.{all_put_back}
use Rattle.grid_sheet.proofs.UndoLemmas.{back_more}
use Rattle.grid_sheet.proofs.undoing.put_back.Goals as goal

pub rows-preserved : goal.rows-preserved
rows-preserved c =
    let hads = c.args.kept.now.had.items in
    let texts = fields_of c.args.kept.now.texts in
    let rows = c.args.rows.now.items in
    let there : c.rows.place < length rows = search rules in
    let first : c.rows.place < length hads = omega (arith, there, c.requires.had) in
    let second : c.rows.place < length texts = omega (arith, there, c.requires.texts) in
    let later = all_put_back c.args.column (drop (c.rows.place + 1) hads) (drop (c.rows.place + 1) texts) (drop (c.rows.place + 1) (rows_of rows)) in
    ap (λ l. rows_of l ++ later) c.in_ok-push.ensures.items
    ∙ back_more c.args.column hads texts rows c.rows.edited.items (all_put_back c.args.column hads texts (rows_of rows)) c.rows.place
    c.index-in-rows.result.now c.cell_at-text.result.now c.index.result.now c.in_ok-cells_put_back.field-0 first second there
    c.index-in-rows.ensures c.cell_at-text.ensures c.index.ensures c.in_ok-cells_put_back.ensures c.rows.invariant
