-- How many places files take once the locks that are over have ended and the ids that are over have gone.
use Rattle.std.proofs.Common.{◌≡◌, ◌+◌, ◌≤◌, ℕ, zero, suc, Bool, true, false, if◌then◌else◌, List, [], ◌∷◌, map, length, Option, None, Some, refl, ap, arith}
use Rattle.std.specs.Prelude.{nat_lt, slice_get, option_map}
use Rattle.wopi_model.specs.Settle.{expired, is_over, standing, still_spent, with_spent}
use Rattle.wopi_model.specs.declared.locks.Lock.{Lock}
use Rattle.wopi_model.specs.declared.locks.Spent.{Spent}
use Rattle.expiry_queue.specs.Chains.{Chains, spent_of}
use Rattle.expiry_queue.proofs.Chaining.{fewer_still}
use Rattle.kept_locks.specs.declared.places.Held.{Held}
use Rattle.kept_locks.specs.declared.places.Place.{Place}
use Rattle.kept_locks.specs.declared.trail.Trail.{Trail}
use Rattle.kept_locks.specs.Locks.{Standing, all_ended, all_purged, held_in, ids_in, ids_of, one_lock, places_at, uses_at}
use Rattle.kept_locks.specs.Refusals.{shown_of}
use Rattle.kept_locks.specs.Ties.{held_at, ids_at, lock_of, one_if, places_of_lock, standing_of, standings, total}

counted : (one : Spent) (rest : List Spent) (now : ℕ) (b : Bool) → length (if b then one ∷ still_spent rest now else still_spent rest now) ≡ length (still_spent rest now) + (if b then 1 else 0)
counted one rest now true = omega arith
counted one rest now false = omega arith

by_over : (lock : Lock) (spent : List Spent) (now : ℕ) (b : Bool)
    → one_lock (if b then None else Some lock) + length (still_spent (with_spent (if b then Some (record { id = lock.id; until = lock.until }) else None) spent) now)
    ≡ length (still_spent spent now) + (if b then (if nat_lt now lock.until then 1 else 0) else 1)
by_over lock spent now true = let one = counted (record { id = lock.id; until = lock.until }) spent now (nat_lt now lock.until) in omega (arith, one)
by_over lock spent now false = omega arith

-- a file's places are those of its lock and of its ids
pub lock_uses : (held : Option Held) (spent : List Spent) (now : ℕ)
    → one_lock (standing (option_map lock_of held) now) + length (still_spent (with_spent (expired (option_map lock_of held) now) spent) now) ≡ length (still_spent spent now) + places_of_lock now held
lock_uses None spent now = omega arith
lock_uses (Some held) spent now = by_over held.lock spent now (is_over held.lock now)

pub uses_are : (chains : Chains) (place : Place) (now : ℕ) → uses_at now (standing_of chains place) ≡ length (still_spent (shown_of chains place.trail) now) + places_of_lock now place.held
uses_are chains place now = lock_uses place.held (shown_of chains place.trail) now

lock_most : (held : Option Held) (now : ℕ) → places_of_lock now held ≤ one_if held
lock_most None now = omega arith
lock_most (Some held) now = by_tests (is_over held.lock now) (nat_lt now held.lock.until)
  where
    by_tests : (over before : Bool) → (if over then (if before then 1 else 0) else 1) ≤ 1
    by_tests true true = omega arith
    by_tests true false = omega arith
    by_tests false before = omega arith

pub shown_most : (chains : Chains) (trail : Trail) (now : ℕ) → length (still_spent (shown_of chains trail) now) ≤ length (spent_of chains trail.chain)
shown_most chains trail now = by_purged trail.purged
  where
    by_purged : (b : Bool) → length (still_spent (if b then spent_of chains trail.chain else still_spent (spent_of chains trail.chain) trail.as_of) now) ≤ length (spent_of chains trail.chain)
    by_purged true = fewer_still (spent_of chains trail.chain) now
    by_purged false =
        let here = fewer_still (still_spent (spent_of chains trail.chain) trail.as_of) now in
        let there = fewer_still (spent_of chains trail.chain) trail.as_of in
        omega (arith, here, there)

-- no more ids are shown than the chain has
pub shown_whole : (chains : Chains) (trail : Trail) → length (shown_of chains trail) ≤ length (spent_of chains trail.chain)
shown_whole chains trail = by_purged trail.purged
  where
    by_purged : (b : Bool) → length (if b then spent_of chains trail.chain else still_spent (spent_of chains trail.chain) trail.as_of) ≤ length (spent_of chains trail.chain)
    by_purged true = omega arith
    by_purged false = fewer_still (spent_of chains trail.chain) trail.as_of

pub uses_most : (chains : Chains) (place : Place) (now : ℕ) → uses_at now (standing_of chains place) ≤ ids_at chains place + held_at place
uses_most chains place now =
    let is = uses_are chains place now in
    let ids = shown_most chains place.trail now in
    let lock = lock_most place.held now in
    omega (arith, is, ids, lock)

pub places_most : (chains : Chains) (places : List Place) (now : ℕ) → places_at now (standings chains places) ≤ total (ids_at chains) places + total held_at places
places_most chains [] now = omega arith
places_most chains (place ∷ places) now =
    let here = uses_most chains place now in
    let rest = places_most chains places now in
    omega (arith, here, rest)

-- those are the places that are taken after a purge
pub places_are : (now : ℕ) (files : List Standing) → held_in (all_purged now (all_ended now files)) + ids_in (map ids_of (all_purged now (all_ended now files))) ≡ places_at now files
places_are now [] = refl
places_are now (file ∷ files) = let rest = places_are now files in omega (arith, rest)

pub one_most : (f : Place → ℕ) (places : List Place) (j : ℕ) (place : Place) → slice_get places j ≡ Some place → f place ≤ total f places
one_most f [] j place e = absurd (cc (e))
one_most f (first ∷ places) zero place e =
    let this : first ≡ place = cc (e) in
    let same : f first ≡ f place = ap f this in
    omega (arith, same)
one_most f (first ∷ places) (suc j) place e = let rest = one_most f places j place e in omega (arith, rest)

-- the places from a number on
abbrev pub behind : ℕ → List Place → List Place
behind zero places = places
behind (suc n) [] = []
behind (suc n) (place ∷ places) = behind n places

pub behind_step : (chains : Chains) (now n : ℕ) (places : List Place) (place : Place) → slice_get places n ≡ Some place
    → places_at now (standings chains (behind n places)) ≡ uses_at now (standing_of chains place) + places_at now (standings chains (behind (suc n) places))
behind_step chains now n [] place e = absurd (cc (e))
behind_step chains now zero (first ∷ places) place e =
    let this : first ≡ place = cc (e) in
    ap (λ (p : Place). uses_at now (standing_of chains p) + places_at now (standings chains places)) this
behind_step chains now (suc n) (first ∷ places) place e = behind_step chains now n places place e

pub behind_end : (chains : Chains) (now n : ℕ) (places : List Place) → length places ≤ n → places_at now (standings chains (behind n places)) ≡ 0
behind_end chains now zero [] le = refl
behind_end chains now (suc n) [] le = refl
behind_end chains now zero (first ∷ places) le = absurd (omega (arith, le))
behind_end chains now (suc n) (first ∷ places) le = behind_end chains now n places (omega (arith, le))
