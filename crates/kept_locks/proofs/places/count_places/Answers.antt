use Rattle.std.proofs.Common.{◌<◌, ◌≤◌, length, arith}
use Rattle.kept_locks.specs.Ties.{held_at, ids_at}
use Rattle.kept_locks.proofs.Placing.{behind_end, behind_step, one_most, places_most}
use Rattle.kept_locks.proofs.Renewing.{place_found}
use Rattle.kept_locks.proofs.places.count_places.Goals as goal

pub place_uses-count-requires-clause-few : goal.place_uses-count-requires-clause-few
place_uses-count-requires-clause-few c =
    let places = c.args.places.now in
    let below : c.places.at < length places = c.places-test.true in
    let at = place_found places c.places.at c.index-places-at.result below c.index-places-at.is in
    let ids = one_most (ids_at c.args.chains.now) places c.places.at c.index-places-at.result at in
    let held = one_most held_at places c.places.at c.index-places-at.result at in
    let few = c.requires.few in
    omega (arith, ids, held, few)

pub overflow_add-count : goal.overflow_add-count
overflow_add-count c =
    let places = c.args.places.now in
    let below : c.places.at < length places = c.places-test.true in
    let at = place_found places c.places.at c.index-places-at.result below c.index-places-at.is in
    let step = behind_step c.args.chains.now c.args.now c.places.at places c.index-places-at.result at in
    let most = places_most c.args.chains.now places c.args.now in
    let all = c.places.invariant in
    let is = c.place_uses-count.ensures in
    let few = c.requires.few in
    omega (arith, step, most, all, is, few)

pub returns : goal.returns
returns c =
    let places = c.args.places.now in
    let past : length places ≤ c.places.at = c.places-test.false in
    let none = behind_end c.args.chains.now c.args.now c.places.at places past in
    let all = c.places.invariant in
    omega (arith, none, all)
