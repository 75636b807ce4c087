use Rattle.std.proofs.Common.{◌≡◌, ◌+◌, ◌<◌, ◌^◌, List, sym, ap, subst, ◌∙◌, arith}
use Rattle.std.proofs.lemmas.Bool.{lt-ltb}
use Rattle.kept_locks.specs.declared.places.Place.{Place}
use Rattle.kept_locks.specs.Locks.{Locks, held_in, ids_in, places_at}
use Rattle.kept_locks.specs.Ties.{chains_in, held_at, ids_at, standings, total}
use Rattle.kept_locks.proofs.Counting.{held_is, ids_are}
use Rattle.kept_locks.proofs.locks.KeptLocks.has_place.Goals as goal

pub returns-then-taken-ids : goal.returns-then-taken-ids
returns-then-taken-ids c =
    let most = c.used-taken.ensures.most c.args.now in
    let fewer : c.used-taken.result < c.args.ids = c.if-taken-ids.true in
    sym (lt-ltb (places_at c.args.now c.args.self.now.files) c.args.ids (omega (arith, most, fewer)))

pub count_places-requires-clause-few : goal.count_places-requires-clause-few
count_places-requires-clause-few c =
    let chains = c.self.inside.chains in
    let places = c.self.inside.places.items in
    let held = held_is chains places in
    let ids = ids_are chains places in
    let taken : c.used-taken.result ≡ held_in (standings chains places) + ids_in (chains_in chains places) =
    c.used-taken.ensures.used ∙ sym (ap (λ (l : Locks). held_in l.files + ids_in l.chains) c.self.view_is) in
    let fits : c.used-taken.result < 2 ^ 64 = c.used-taken.ensures.fits in
    subst (λ (all : List Place). total (ids_at chains) all + total held_at all < 2 ^ 64) (sym c.deref.ensures.value) (omega (arith, held, ids, taken, fits))
