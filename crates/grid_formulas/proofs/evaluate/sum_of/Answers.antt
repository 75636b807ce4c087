use Rattle.std.proofs.Common.{◌∙◌, ap}
use Rattle.std.specs.BTreeMap.{get}
use Rattle.std.specs.Ordering.{nat_cmp}
use Rattle.grid_formulas.specs.Sheets.{values_over}
use Rattle.grid_formulas.proofs.Folds.{sum_more}
use Rattle.grid_formulas.proofs.evaluate.sum_of.Goals as goal

pub cells-preserved : goal.cells-preserved
cells-preserved c =
    let values = values_over c.args.grid.now (get nat_cmp c.args.nodes.now) (get nat_cmp c.args.after.now) in
    c.with_cell-total.ensures
    ∙ sum_more values c.args.span.now c.cells.n c.cells.total c.value_at.result c.cells.invariant (c.value_at.ensures ∙ ap values c.nth.ensures)
