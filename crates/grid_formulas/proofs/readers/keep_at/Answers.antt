use Rattle.std.specs.BTreeMap.{get}
use Rattle.std.specs.Ordering.{nat_cmp}
use Rattle.std.proofs.Common.{arith}
use Rattle.grid_formulas.proofs.Kept.{grows_on, kept_all, kept_more}
use Rattle.grid_formulas.proofs.readers.keep_at.Goals as goal

pub nodes-preserved : goal.nodes-preserved
nodes-preserved c =
    let mid = get nat_cmp c.nodes.readers in
    let last = get nat_cmp c.keep.new.readers in (
      grows_on (get nat_cmp c.args.readers.now) mid last c.nodes.invariant.0 c.keep.ensures.grows,
      kept_more c.args.nodes.now c.nodes.node-index c.args.reader mid last c.nodes.invariant.1 c.keep.ensures.grows c.in_ok-keep.ensures.kept,
    )

pub returns-clause-kept : goal.returns-clause-kept
returns-clause-kept c =
    kept_all (get nat_cmp c.nodes.readers) c.args.nodes.now c.args.reader (λ k lt. c.nodes.invariant.1 k (omega (arith, lt)))
