use Rattle.std.proofs.Common.{arith, sym, ◌∙◌, ap}
use Rattle.std.specs.BTreeSet.{contains}
use Rattle.std.specs.Ordering.{nat_cmp}
use Rattle.grid_formulas.proofs.Looks.{place_index}
use Rattle.grid_formulas.proofs.readers.set_of.Goals as goal

pub returns : goal.returns
returns c n e =
    let at = place_index c.args.nodes.now n e in
    ap (contains nat_cmp c.nodes.set) (sym at.2) ∙ c.nodes.invariant at.0 (omega (arith, at.1))
