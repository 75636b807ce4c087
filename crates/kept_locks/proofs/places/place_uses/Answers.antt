use Rattle.std.proofs.Common.{arith}
use Rattle.kept_locks.proofs.Placing.{uses_are, uses_most}
use Rattle.kept_locks.proofs.places.place_uses.Goals as goal

pub overflow_add-result : goal.overflow_add-result
overflow_add-result c =
    let are = uses_are c.args.chains.now c.args.place.now c.args.now in
    let most = uses_most c.args.chains.now c.args.place.now c.args.now in
    let ids = c.count_shown-ids.ensures in
    let lock = c.lock_places.ensures in
    let few = c.requires.few in
    omega (arith, are, most, ids, lock, few)
