use Rattle.std.specs.BTreeMap.{get}
use Rattle.std.specs.Ordering.{nat_cmp}
use Rattle.std.proofs.Common.{arith, length, ◌<◌}
use Rattle.grid_formulas.proofs.Set.{takes_more}
use Rattle.grid_formulas.proofs.nodes.take_over.Goals as goal

pub places-preserved : goal.places-preserved
places-preserved c =
    let below : c.places.place-index < length c.args.places.now = omega arith in
    takes_more (get nat_cmp c.args.nodes.now) (get nat_cmp c.places.nodes) (get nat_cmp c.take_value.new.nodes) (get nat_cmp c.args.values.now) c.args.places.now c.places.place-index below c.places.invariant c.take_value.ensures
