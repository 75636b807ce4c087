use Rattle.std.specs.BTreeMap.{get}
use Rattle.std.specs.Ordering.{nat_cmp}
use Rattle.std.proofs.Common.{◌≤◌, length, arith}
use Rattle.grid_formulas.proofs.Marked.{closed}
use Rattle.grid_formulas.proofs.dependents.dependents.Goals as goal

pub returns-clause-closed : goal.returns-clause-closed
returns-clause-closed c =
    let all : length c.places.places.items ≤ c.places.done = omega (arith, c.places-test.false, c.len.ensures, c.places.places.ok.0) in
    closed (get nat_cmp c.args.nodes.now) (get nat_cmp c.args.readers.now) c.places.places.items c.places.done (get nat_cmp c.places.after) c.places.invariant.marked c.places.invariant.follows all
