use Rattle.std.proofs.Common.{◌≤◌, ◌-◌, suc, arith}
use Rattle.grid_formulas.proofs.Indexed.{above_mono, above_next, above_zero, covers}
use Rattle.grid_formulas.proofs.spans.cover.Goals as goal

pub levels-init : goal.levels-init
levels-init c = (0, above_zero c.args.first, above_zero c.args.last)

pub overflow_sub-high : goal.overflow_sub-high
overflow_sub-high c =
    let i = c.levels.invariant in
    let m = above_mono i.0 c.args.first c.args.last c.requires.order in
    omega (arith, i.1, i.2, m)

pub levels-preserved : goal.levels-preserved
levels-preserved c =
    let i = c.levels.invariant in
    (suc i.0, above_next i.0 c.args.first c.levels.low i.1, above_next i.0 c.args.last c.levels.high i.2)

pub returns : goal.returns
returns c =
    let i = c.levels.invariant in
    let near : c.levels.high - c.levels.low ≤ 1 = omega arith in
    covers c.args.first c.args.last c.levels.low c.levels.high i.0 i.1 i.2 near
