use Rattle.std.proofs.Common.{◌≤◌, suc, arith, inr}
use Rattle.grid_formulas.proofs.Indexed.{first_level, last_level, next_level, on_ok_both}
use Rattle.grid_formulas.proofs.spans.push_between.Goals as goal

pub levels-init : goal.levels-init
levels-init c = (λ q e. e, 0, λ q from to. inr (first_level c.args.first c.args.last q from to))

pub levels-preserved : goal.levels-preserved
levels-preserved c =
    let i = c.levels.invariant in
    let e = c.in_ok-push_ends.ensures in (
      λ q here. e.before q (i.0 q here),
      suc i.1,
      λ q from to. next_level c.levels.low c.levels.high i.1 q c.levels.nodes.items c.push_ends.new.nodes.items e.before e.others (i.2 q from to),
    )

pub returns-clause-above : goal.returns-clause-above
returns-clause-above c =
    let i = c.levels.invariant in
    let le : c.levels.high ≤ c.levels.low = omega arith in
    on_ok_both c.push_if.result
    (λ more here q from to. last_level c.levels.low c.levels.high i.1 q c.levels.nodes.items c.push_if.new.nodes.items le more here (i.2 q from to))
    c.push_if.ensures.before c.push_if.ensures.here
