use Rattle.std.specs.BTreeMap.{get}
use Rattle.std.specs.Ordering.{nat_cmp}
use Rattle.std.specs.Prelude.{slice_index}
use Rattle.grid_formulas.proofs.Looks.{apart_at}
use Rattle.grid_formulas.proofs.Sheeted.{starts_more}
use Rattle.grid_formulas.proofs.values.start_over.Goals as goal

pub places-preserved : goal.places-preserved
places-preserved c =
    let updates = c.in_ok-insert.ensures.updates in
    starts_more c.args.places.now c.places.place-index (get nat_cmp c.places.values) (get nat_cmp c.insert.new.self) c.places.invariant updates.1
    (λ q ne. updates.2 q (apart_at q (slice_index c.args.places.now c.places.place-index) ne))
