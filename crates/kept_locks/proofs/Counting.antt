-- How many places are taken.
use Rattle.std.proofs.Common.{◌≡◌, ◌≢◌, ◌+◌, ℕ, zero, suc, List, [], ◌∷◌, ◌++◌, length, Option, None, Some, refl, ap, ◌∙◌, arith}
use Rattle.std.specs.Prelude.{slice_get, option_map}
use Rattle.expiry_queue.specs.Chains.{Chains, Becomes}
use Rattle.wopi_model.specs.declared.locks.Spent.{Spent}
use Rattle.kept_locks.specs.declared.places.Held.{Held}
use Rattle.kept_locks.specs.declared.places.Place.{Place}
use Rattle.kept_locks.specs.Locks.{held_in, ids_in, one_lock}
use Rattle.kept_locks.specs.Refusals.{Counts}
use Rattle.kept_locks.specs.Ties.{OwnChains, Puts, chains_in, held_at, ids_at, lock_of, one_if, standings, total}
use Rattle.kept_locks.proofs.Tying.{own_other, same_list, same_other}

total_same : (f g : Place → ℕ) (places : List Place) → ((j : ℕ) (p : Place) → slice_get places j ≡ Some p → g p ≡ f p) → total g places ≡ total f places
total_same f g [] same = refl
total_same f g (p ∷ places) same =
    let here = same 0 p refl in
    let rest = total_same f g places (λ j. same (suc j)) in
    omega (arith, here, rest)

-- one place became another one
pub total_put : (f g : Place → ℕ) (old new : List Place) (i : ℕ) (was place : Place) → slice_get old i ≡ Some was → Puts old new i place → ((j : ℕ) (p : Place) → j ≢ i → slice_get old j ≡ Some p → g p ≡ f p)
    → total g new + f was ≡ total f old + g place
total_put f g [] new i was place at puts same = absurd (cc (at))
total_put f g (first ∷ old) [] i was place at puts same = absurd (cc (puts.here))
total_put f g (first ∷ old) (next ∷ new) zero was place at puts same =
    let this : first ≡ was = cc (at) in
    let that : next ≡ place = cc (puts.here) in
    let rest : new ≡ old = same_list new old (λ j. puts.others (suc j) (λ e. absurd (cc (e)))) in
    let alike : total g old ≡ total f old = total_same f g old (λ j p found. same (suc j) p (λ e. absurd (cc (e))) found) in
    let mine : f first ≡ f was = ap f this in
    let its : g next ≡ g place = ap g that in
    let all : total g new ≡ total g old = ap (total g) rest in
    omega (arith, alike, mine, its, all)
total_put f g (first ∷ old) (next ∷ new) (suc i) was place at puts same =
    let heads : Some next ≡ Some first = puts.others 0 (λ e. absurd (cc (e))) in
    let this : next ≡ first = cc (heads) in
    let here : g next ≡ f first = ap g this ∙ same 0 first (λ e. absurd (cc (e))) refl in
    let rest = total_put f g old new i was place at
    (record { here = puts.here; others = λ j differs. puts.others (suc j) (λ e. differs (suc_same j i e)); long = shorter puts.long })
    (λ j p differs found. same (suc j) p (λ e. differs (suc_same j i e)) found) in
    omega (arith, here, rest)
  where
    suc_same : (j i : ℕ) → suc j ≡ suc i → j ≡ i
    suc_same j i e = omega (arith, e)

    shorter : suc (length new) ≡ suc (length old) → length new ≡ length old
    shorter e = omega (arith, e)

-- the held locks, where one file's lock became another one
pub held_put : (old new : List Place) (i : ℕ) (was place : Place) → slice_get old i ≡ Some was → Puts old new i place → total held_at new + one_if was.held ≡ total held_at old + one_if place.held
held_put old new i was place at puts = total_put held_at held_at old new i was place at puts (λ j p differs found. refl)

-- the ids, where one file's chain became another one
pub used_put : (places places' : List Place) (old new : Chains) (i : ℕ) (was place : Place) (spent : List Spent) → OwnChains places old → slice_get places i ≡ Some was
    → Becomes old.cells new.cells was.trail.chain place.trail.chain spent → Puts places places' i place → Counts old new was.trail.chain place.trail.chain → total (ids_at old) places ≡ old.used
    → total (ids_at new) places' ≡ new.used
used_put places places' old new i was place spent own at becomes puts counts all =
    let put = total_put (ids_at old) (ids_at new) places places' i was place at puts (λ j p differs found.
    ap length (same_other old new was.trail.chain place.trail.chain p.trail.chain spent becomes (own.live j p found) (own_other i j p.trail.chain was.trail.chain (λ e. own.apart j i p was found at e) differs))) in
    let used = counts.used in
    omega (arith, put, used, all)

pub total_added : (f : Place → ℕ) (places : List Place) (last : Place) → f last ≡ 0 → total f (places ++ last ∷ []) ≡ total f places
total_added f [] last e = omega (arith, e)
total_added f (p ∷ places) last e = let rest = total_added f places last e in omega (arith, rest)

pub held_is : (chains : Chains) (places : List Place) → held_in (standings chains places) ≡ total held_at places
held_is chains [] = refl
held_is chains (p ∷ places) =
    let rest = held_is chains places in
    let here = lock_is p.held in
    omega (arith, rest, here)
  where
    lock_is : (held : Option Held) → one_lock (option_map lock_of held) ≡ one_if held
    lock_is None = refl
    lock_is (Some held) = refl

pub ids_are : (chains : Chains) (places : List Place) → ids_in (chains_in chains places) ≡ total (ids_at chains) places
ids_are chains [] = refl
ids_are chains (p ∷ places) = let rest = ids_are chains places in omega (arith, rest)

-- the places that are taken, as files and their chains have them
pub taken_is : (places : List Place) (chains : Chains) (waiting : ℕ) → total held_at places ≡ waiting → total (ids_at chains) places ≡ chains.used
    → held_in (standings chains places) + ids_in (chains_in chains places) ≡ waiting + chains.used
taken_is places chains waiting held used =
    let locks = held_is chains places in
    let ids = ids_are chains places in
    omega (arith, locks, ids, held, used)
