use Rattle.std.proofs.Common.{◌≡◌, ◌+◌, ◌≤◌, ap, subst, ◌∙◌, arith}
use Rattle.kept_locks.specs.Locks.{Locks, held_in, ids_in, places_at}
use Rattle.kept_locks.specs.Ties.{chains_in, standings}
use Rattle.kept_locks.proofs.Counting.{held_is, ids_are}
use Rattle.kept_locks.proofs.Placing.{places_most}
use Rattle.kept_locks.proofs.locks.KeptLocks.used.Goals as goal

pub returns-clause-used : goal.returns-clause-used
returns-clause-used c =
    let chains = c.self.inside.chains in
    let places = c.self.inside.places.items in
    let held = held_is chains places in
    let ids = ids_are chains places in
    let counted : c.len.result + c.len-2.result ≡ held_in (standings chains places) + ids_in (chains_in chains places) =
    omega (arith, held, ids, c.len.ensures, c.len-2.ensures.used, c.self.invariant.held, c.self.invariant.used) in
    counted ∙ ap (λ (l : Locks). held_in l.files + ids_in l.chains) c.self.view_is

pub returns-clause-most : goal.returns-clause-most
returns-clause-most c = λ now.
    let chains = c.self.inside.chains in
    let places = c.self.inside.places.items in
    let most = places_most chains places now in
    let here : places_at now (standings chains places) ≤ c.len.result + c.len-2.result = omega (arith, most, c.len.ensures, c.len-2.ensures.used, c.self.invariant.held, c.self.invariant.used) in
    subst (λ (l : Locks). places_at now l.files ≤ c.len.result + c.len-2.result) c.self.view_is here
