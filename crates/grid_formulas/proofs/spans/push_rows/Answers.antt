use Rattle.std.proofs.Common.{arith}
use Rattle.grid_formulas.proofs.Indexed.{next_row}
use Rattle.grid_formulas.proofs.spans.push_rows.Goals as goal

pub rows-preserved : goal.rows-preserved
rows-preserved c =
    let i = c.rows.invariant in
    let e = c.in_ok-push_between.ensures in (
      λ q here. e.before q (i.0 q here),
      next_row c.args.span.now.first c.args.span.now.last_column c.rows.row c.rows.nodes.items c.push_between.new.nodes.items e.before i.1 e.above,
    )

pub returns-clause-above : goal.returns-clause-above
returns-clause-above c row q lt from to = c.rows.invariant.1 row q (omega (arith, lt)) from to
