use Rattle.std.proofs.Common.{◌*◌, ◌+◌, ◌<◌, ◌≤◌, length, sym, ◌∙◌, arith}
use Rattle.std.specs.BTreeMap.{get}
use Rattle.std.specs.Ordering.{nat_cmp}
use Rattle.grid_formulas.proofs.Gathered.{gathers_row, sheet_fault}
use Rattle.grid_formulas.proofs.gather.gather_row.Goals as goal

pub returns-then-not-has_cell-clause-ok : goal.returns-then-not-has_cell-clause-ok
returns-then-not-has_cell-clause-ok c =
    let narrow : c.columns.column < 1024 = omega arith in
    gathers_row c.args.grid.now (get nat_cmp c.columns.nodes) c.args.row c.columns.column c.columns.count c.requires.there narrow (sym c.has_cell.ensures ∙ c.if-not-has_cell.true) c.columns.invariant

pub returns-in-Err-clause-refused : goal.returns-in-Err-clause-refused
returns-in-Err-clause-refused c =
    let within : c.args.row * 1024 + c.columns.column + 1 ≤ length c.args.grid.now * 1024 = omega arith in
    sheet_fault c.args.grid.now (c.args.row * 1024 + c.columns.column + 1) c.in-Err.fault c.requires.grid within c.in-Err.ensures.refused
