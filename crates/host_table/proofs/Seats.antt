-- The seats of a pass, one by one and as a row of which one changes.
use Rattle.std.proofs.Common.{◌≡◌, ◌≢◌, ℕ, zero, suc, ◌+◌, ◌≤◌, ◌<◌, max, Option, Some, List, [], ◌∷◌, map, length, set, get_or, slice_get, refl, ap, sym, ◌∙◌, subst, arith}
use Rattle.std.specs.List.{Contains}
use mathlib.Core.List.{IsPrefix}
use Rattle.wopi_model.specs.Host.{Limits}
use Rattle.wopi_model.specs.Shard.{Entry, RisesFrom, last_from, stamps}
use Rattle.host_core.specs.Entries.{Made}
use Rattle.host_core.specs.Value.{Book}
use Rattle.host_core.specs.Times.{steps_of}
use Rattle.host_table.specs.Histories.{last_stamp, AreNamed, IsSeen}
use Rattle.host_table.specs.Passes.{PassView, IsPass, HasSeen, Place, begin_seen, last_seen, top, IsSeat, AreSeats, AreInShards, AreBelow}
use Rattle.host_core.proofs.Timing.{entries-untimed}
use Rattle.host_table.proofs.Owned.{AreOwn}
use Rattle.host_table.proofs.Stamps.{last-above, last_stamp-prefix}

module _ {A : Type 0} where
  pub get_there : (xs : List A) (k : ℕ) (v : A) → k < length xs → v ≡ get_or xs k v → slice_get xs k ≡ Some v
  get_there [] k v h e = absurd (omega arith)
  get_there (x ∷ xs) zero v h e = ap Some (sym e)
  get_there (x ∷ xs) (suc k) v h e = get_there xs k v (omega arith) e

  pub get_set : (xs : List A) (k : ℕ) (w : A) → k < length xs → slice_get (set xs k w) k ≡ Some w
  get_set [] k w h = absurd (omega arith)
  get_set (x ∷ xs) zero w h = refl
  get_set (x ∷ xs) (suc k) w h = get_set xs k w (omega arith)

  pub get_other : (xs : List A) (k j : ℕ) (w : A) → j ≢ k → slice_get (set xs k w) j ≡ slice_get xs j
  get_other [] k j w n = refl
  get_other (x ∷ xs) zero zero w n = absurd (n refl)
  get_other (x ∷ xs) zero (suc j) w n = refl
  get_other (x ∷ xs) (suc k) zero w n = refl
  get_other (x ∷ xs) (suc k) (suc j) w n = get_other xs k j w (λ e. n (ap suc e))

  -- what a function gives of each stays, where it gives the same of the new one
  pub map_set : {B : Type 0} (f : A → B) (xs : List A) (k : ℕ) (v w : A) → v ≡ get_or xs k v → f w ≡ f v → map f (set xs k w) ≡ map f xs
  map_set f [] k v w e same = refl
  map_set f (x ∷ xs) zero v w e same = let first : f w ≡ f x = same ∙ ap f e in λ i. first i ∷ map f xs
  map_set f (x ∷ xs) (suc k) v w e same = let rest = map_set f xs k v w e same in λ i. f x ∷ rest i

-- the stamps that were seen rise
pub rises_of : {F : Type 0} (base : Book F) (seen : List Made) → IsSeen base seen → RisesFrom base.begin.last (stamps (steps_of seen))
rises_of base seen is = subst (λ (es : List Entry). RisesFrom base.begin.last (stamps es)) (entries-untimed seen) is.legal.stamps

pub rises_seen : {F : Type 0} (base : Book F) (v : Place F) → v.base ≡ Some base → IsSeen base v.seen → RisesFrom (begin_seen v.base).last (stamps (steps_of v.seen))
rises_seen base v based is =
    let P : Option (Book _) → Type 0 = λ o. RisesFrom (begin_seen o).last (stamps (steps_of v.seen)) in
    subst P (sym based) (rises_of base v.seen is)

-- the last stamp doesn't fall as more is seen
module _ {F : Type 0} where
  pub last_seen-later : (base : Book F) (v w : Place F) → v.base ≡ Some base → w.base ≡ Some base → IsSeen base w.seen → IsPrefix v.seen w.seen → last_seen v ≤ last_seen w
  last_seen-later base v w old new is later =
      let P : Option (Book F) × Option (Book F) → Type 0 = λ z. last_stamp (begin_seen z.0).last v.seen ≤ last_stamp (begin_seen z.1).last w.seen in
      let both : (Some base, Some base) ≡ (v.base, w.base) = λ i. (sym old i, sym new i) in
      subst P both (last_stamp-prefix base.begin.last v.seen w.seen later (rises_of base w.seen is))

module _ {F : Type 0} (number weight opened oldest : ℕ) (limits : Limits) where
  pub seat_there : (j n : ℕ) (ss : List (Place F)) (k : ℕ) (v : Place F) → n ≡ j + k → AreSeats number weight opened oldest limits j ss → k < length ss → v ≡ get_or ss k v → IsSeat number weight opened oldest limits n v
  seat_there j n [] k v e are h at = absurd (omega arith)
  seat_there j n (s ∷ ss) zero v e are h at =
      let here : j ≡ n = omega arith in
      let P : ℕ × Place F → Type 0 = λ z. IsSeat number weight opened oldest limits z.0 z.1 in
      let same : (j, s) ≡ (n, v) = λ i. (here i, sym at i) in
      subst P same are.0
  seat_there j n (s ∷ ss) (suc k) v e are h at = seat_there (j + 1) n ss k v (omega arith) are.1 (omega arith) at

  pub seats_set : (j n : ℕ) (ss : List (Place F)) (k : ℕ) (w : Place F) → n ≡ j + k → AreSeats number weight opened oldest limits j ss → IsSeat number weight opened oldest limits n w → AreSeats number weight opened oldest limits j (set ss k w)
  seats_set j n [] k w e are is = tt
  seats_set j n (s ∷ ss) zero w e are is =
      let here : n ≡ j = omega arith in
      let P : ℕ → Type 0 = λ z. IsSeat number weight opened oldest limits z w in
      (subst P here is, are.1)
  seats_set j n (s ∷ ss) (suc k) w e are is = (are.0, seats_set (j + 1) n ss k w (omega arith) are.1 is)

  pub own_seats : (j : ℕ) (ss : List (Place F)) → AreSeats number weight opened oldest limits j ss → AreOwn number ss
  own_seats j [] are = tt
  own_seats j (s ∷ ss) are = ((rises_seen are.0.base s are.0.based are.0.seen, are.0.owns), own_seats (j + 1) ss are.1)

  pub named_seats : (j : ℕ) (ss : List (Place F)) → AreSeats number weight opened oldest limits j ss → AreInShards j ss
  named_seats j [] are = tt
  named_seats j (s ∷ ss) are = (subst (λ (o : Option ℕ). AreNamed o s.seen) are.0.is_base.only are.0.seen.named, named_seats (j + 1) ss are.1)

-- no stamp is above the last of those that rise
most_from : (low : ℕ) (xs : List ℕ) (n : ℕ) → RisesFrom low xs → Contains xs n → n ≤ last_from low xs
most_from low [] n rises c = absurd (omega (arith, c.1))
most_from low (x ∷ xs) n rises (zero, inside, is) = let rest = last-above x xs rises.1 in let here : x ≡ n = is in omega (arith, rest, here)
most_from low (x ∷ xs) n rises (suc k, inside, is) = most_from x xs n rises.1 (k, omega (arith, inside), is)

-- nor above the greatest of all shards
module _ {F : Type 0} (number weight opened oldest : ℕ) (limits : Limits) where
  pub below_top : (j : ℕ) (ss : List (Place F)) → AreSeats number weight opened oldest limits j ss → AreBelow (top ss) ss
  below_top j [] are shard stamp c = absurd (omega (arith, c.1))
  below_top j (s ∷ ss) are zero stamp c =
      let here : Contains (stamps (steps_of s.seen)) stamp = subst (λ (es : List Entry). Contains (stamps es) stamp) (entries-untimed s.seen) c in
      let low : stamp ≤ last_seen s = most_from (begin_seen s.base).last (stamps (steps_of s.seen)) stamp (rises_seen are.0.base s are.0.based are.0.seen) here in
      grind arith
  below_top j (s ∷ ss) are (suc shard) stamp c = let rest = below_top (j + 1) ss are.1 shard stamp c in grind arith

pub top_set : {F : Type 0} (ss : List (Place F)) (k : ℕ) (v w : Place F) → k < length ss → v ≡ get_or ss k v → last_seen v ≤ last_seen w → max (top ss) (last_seen w) ≡ top (set ss k w)
top_set [] k v w h e le = absurd (omega arith)
top_set (s ∷ ss) zero v w h e le = let a : last_seen v ≡ last_seen s = ap (λ (z : Place _). last_seen z) e in grind arith
top_set (s ∷ ss) (suc k) v w h e le = let a = top_set ss k v w (omega arith) e le in grind arith

pub has_seen : {F : Type 0} (p : PassView F) → IsPass p → HasSeen p
has_seen p is = record {
  last_is = is.last_is;
  below = subst (λ n. AreBelow n p.seats) (sym is.last_is) (below_top p.number p.weight p.opened p.first p.limits 0 p.seats is.seats);
  named = named_seats p.number p.weight p.opened p.first p.limits 0 p.seats is.seats;
}
