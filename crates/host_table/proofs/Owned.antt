-- A pass's own entries, by stamp.
use Rattle.std.proofs.Common.{◌≡◌, ℕ, zero, suc, ◌+◌, ◌<◌, cond, ltb, Option, None, Some, List, [], ◌∷◌, ◌++◌, map, length, set, get_or, slice_get, ap, sym, ◌∙◌, refl, subst, arith, append_assoc, true, false}
use Rattle.std.proofs.lemmas.Bool.Decides.{nat_tests}
use mathlib.Core.List.{IsPrefix}
use Rattle.wopi_model.specs.Shard.{RisesFrom, stamps, last_from}
use Rattle.host_core.specs.Entries.{Made}
use Rattle.host_core.specs.Times.{steps_of}
use Rattle.host_table.specs.Histories.{last_stamp}
use Rattle.host_table.specs.Passes.{Place, Own, owned_at, owned, stamp_of, put_in, by_stamp, owned_from, begin_seen, last_seen, top, HasOwn, Owns}
use Rattle.host_table.proofs.Stamps.{prefix_get, get_last, last_stamp-most}
use Rattle.wopi_model.proofs.Histories.{RisesFrom-push}

-- there is an entry of the pass's own
pub has_own : (number : ℕ) (o : Option Made) → HasOwn number o → (one : Made) × (o ≡ Some one) × (one.step.pass ≡ number)
has_own number None h = absurd h
has_own number (Some one) h = (one, refl, h)

pub owns-later : (number : ℕ) (xs ys : List Made) (places : List ℕ) → IsPrefix xs ys → Owns number xs places → Owns number ys places
owns-later number xs ys [] p o = tt
owns-later number xs ys (place ∷ places) p o =
    let one = has_own number (slice_get xs place) o.0 in
    (subst (HasOwn number) (sym (prefix_get xs ys place one.0 p one.1)) one.2, owns-later number xs ys places p o.1)

pub owns-push : (number : ℕ) (ys : List Made) (places : List ℕ) (place : ℕ) → Owns number ys places → HasOwn number (slice_get ys place) → Owns number ys (places ++ place ∷ [])
owns-push number ys [] place o h = (h, tt)
owns-push number ys (first ∷ places) place o h = (o.0, owns-push number ys places place o.1 h)

-- own entries stay as a history grows
pub owned-later : (number shard : ℕ) (xs ys : List Made) (places : List ℕ) → IsPrefix xs ys → Owns number xs places → owned shard ys places ≡ owned shard xs places
owned-later number shard xs ys [] p o = refl
owned-later number shard xs ys (place ∷ places) p o =
    let one = has_own number (slice_get xs place) o.0 in
    let same : slice_get ys place ≡ slice_get xs place = prefix_get xs ys place one.0 p one.1 ∙ sym one.1 in
    let rest = owned-later number shard xs ys places p o.1 in
    λ i. owned_at shard place (same i) ++ rest i

owned-push : (shard : ℕ) (ys : List Made) (places : List ℕ) (place : ℕ) (one : Made) → slice_get ys place ≡ Some one → owned shard ys (places ++ place ∷ []) ≡ owned shard ys places ++ record { shard = shard; place = place; entry = one.step; told = one.told } ∷ []
owned-push shard ys [] place one e = ap (λ (o : Option Made). owned_at shard place o ++ []) e
owned-push shard ys (first ∷ places) place one e =
    let x : Own = record { shard = shard; place = place; entry = one.step; told = one.told } in let a = owned_at shard first (slice_get ys first) in
    ap (λ (z : List Own). a ++ z) (owned-push shard ys places place one e) ∙ sym (append_assoc a (owned shard ys places) (x ∷ []))

abbrev AllBelow : ℕ → List Own → Type 0
AllBelow n [] = Unit {0}
AllBelow n (y ∷ ys) = (stamp_of y < n) × AllBelow n ys

below-append : (n : ℕ) (xs ys : List Own) → AllBelow n xs → AllBelow n ys → AllBelow n (xs ++ ys)
below-append n [] ys a b = b
below-append n (x ∷ xs) ys a b = (a.0, below-append n xs ys a.1 b)

put_in_below : (n : ℕ) (x : Own) (ys : List Own) → stamp_of x < n → AllBelow n ys → AllBelow n (put_in x ys)
put_in_below n x [] h b = (h, tt)
put_in_below n x (y ∷ ys) h b = elim (ltb (stamp_of y) (stamp_of x)) as (λ z. AllBelow n (cond z (y ∷ put_in x ys) (x ∷ y ∷ ys))) [ true ↦ (b.0, put_in_below n x ys h b.1) | false ↦ (h, b) ]

by_stamp_below : (n : ℕ) (xs : List Own) → AllBelow n xs → AllBelow n (by_stamp xs)
by_stamp_below n [] b = tt
by_stamp_below n (x ∷ xs) b = put_in_below n x (by_stamp xs) b.0 (by_stamp_below n xs b.1)

-- a later entry goes to the end
put_in_last : (x : Own) (ys : List Own) → AllBelow (stamp_of x) ys → put_in x ys ≡ ys ++ x ∷ []
put_in_last x [] b = refl
put_in_last x (y ∷ ys) b = let h : ltb (stamp_of y) (stamp_of x) ≡ true = let l = b.0 in grind (arith, nat_tests) in rw h (ap (λ (z : List Own). y ∷ z) (put_in_last x ys b.1))

-- an earlier one goes before the end
put_in_before : (a x : Own) (ys : List Own) → stamp_of a < stamp_of x → put_in a (ys ++ x ∷ []) ≡ put_in a ys ++ x ∷ []
put_in_before a x [] h = let f : ltb (stamp_of x) (stamp_of a) ≡ false = grind (arith, nat_tests) in rw f refl
put_in_before a x (y ∷ ys) h = elim (ltb (stamp_of y) (stamp_of a)) as (λ z. cond z (y ∷ put_in a (ys ++ x ∷ [])) (a ∷ y ∷ (ys ++ x ∷ [])) ≡ cond z (y ∷ put_in a ys) (a ∷ y ∷ ys) ++ x ∷ []) [
  | true ↦ ap (λ (z : List Own). y ∷ z) (put_in_before a x ys h)
  | false ↦ refl
]

by_stamp_last : (xs ys : List Own) (x : Own) → AllBelow (stamp_of x) (xs ++ ys) → by_stamp ((xs ++ x ∷ []) ++ ys) ≡ by_stamp (xs ++ ys) ++ x ∷ []
by_stamp_last [] ys x b = put_in_last x (by_stamp ys) (by_stamp_below (stamp_of x) ys b)
by_stamp_last (a ∷ xs) ys x b = ap (put_in a) (by_stamp_last xs ys x b.1) ∙ put_in_before a x (by_stamp (xs ++ ys)) b.0

-- the last of stamps that all are below a number
last_below : (low n : ℕ) (xs : List Own) → low < n → AllBelow n xs → last_from low (map stamp_of xs) < n
last_below low n [] h b = h
last_below low n (x ∷ xs) h b = last_below (stamp_of x) n xs b.0 b.1

owned_below : (number shard low n : ℕ) (xs : List Made) (places : List ℕ) → RisesFrom low (stamps (steps_of xs)) → Owns number xs places → last_stamp low xs < n → AllBelow n (owned shard xs places)
owned_below number shard low n xs [] r o l = tt
owned_below number shard low n xs (place ∷ places) r o l =
    let one = has_own number (slice_get xs place) o.0 in
    let most = last_stamp-most low place xs one.0 one.1 r in
    let here : stamp_of (record { shard = shard; place = place; entry = one.0.step; told = one.0.told }) < n = omega arith in
    let P : Option Made → Type 0 = λ (z : Option Made). AllBelow n (owned_at shard place z ++ owned shard xs places) in
    subst P (sym one.1) (here, owned_below number shard low n xs places r o.1 l)

record Split (old new : List Own) (x : Own) : Type 0 where
  left : List Own
  right : List Own
  was : old ≡ left ++ right
  is : new ≡ (left ++ x ∷ []) ++ right

module _ {F : Type 0} where
  -- of each seat: the stamps rise, and the own entries are the pass's
  abbrev pub AreOwn : ℕ → List (Place F) → Type 0
  AreOwn number [] = Unit {0}
  AreOwn number (s ∷ ss) = (RisesFrom (begin_seen s.base).last (stamps (steps_of s.seen)) × Owns number s.seen s.own) × AreOwn number ss

  all_below : (number j n : ℕ) (ss : List (Place F)) → AreOwn number ss → top ss < n → 0 < n → AllBelow n (owned_from j ss)
  all_below number j n [] o l z = tt
  all_below number j n (s ∷ ss) o l z = let a : last_seen s < n = grind arith in let b : top ss < n = grind arith in
      below-append n (owned j s.seen s.own) (owned_from (j + 1) ss) (owned_below number j (begin_seen s.base).last n s.seen s.own o.0.0 o.0.1 a) (all_below number (j + 1) n ss o.1 b z)

  split_at : (j n : ℕ) (ss : List (Place F)) (k : ℕ) (v w : Place F) (x : Own) → n ≡ j + k → k < length ss → v ≡ get_or ss k v → owned n w.seen w.own ≡ owned n v.seen v.own ++ x ∷ [] → Split (owned_from j ss) (owned_from j (set ss k w)) x
  split_at j n [] k v w x e h at m = absurd (omega arith)
  split_at j n (s ∷ ss) zero v w x e h at m = let here : n ≡ j = omega arith in
      let P : ℕ × Place F → Type 0 = λ z. owned z.0 w.seen w.own ≡ owned z.0 z.1.seen z.1.own ++ x ∷ [] in
      record {
        left = owned j s.seen s.own;
        right = owned_from (j + 1) ss;
        was = refl;
        is = ap (λ (z : List Own). z ++ owned_from (j + 1) ss) (subst P (λ i. (here i, at i)) m);
      }
  split_at j n (s ∷ ss) (suc k) v w x e h at m = let r = split_at (j + 1) n ss k v w x (omega arith) (omega arith) at m in let a : List Own = owned j s.seen s.own in record {
    left = a ++ r.left;
    right = r.right;
    was = ap (λ (z : List Own). a ++ z) r.was ∙ sym (append_assoc a r.left r.right);
    is = ap (λ (z : List Own). a ++ z) r.is ∙ (sym (append_assoc a (r.left ++ x ∷ []) r.right) ∙ ap (λ (z : List Own). z ++ r.right) (sym (append_assoc a r.left (x ∷ []))));
  }

  same_at : (j n : ℕ) (ss : List (Place F)) (k : ℕ) (v w : Place F) → n ≡ j + k → v ≡ get_or ss k v → owned n w.seen w.own ≡ owned n v.seen v.own → owned_from j (set ss k w) ≡ owned_from j ss
  same_at j n [] k v w e at m = refl
  same_at j n (s ∷ ss) zero v w e at m = let here : n ≡ j = omega arith in
      let P : ℕ × Place F → Type 0 = λ z. owned z.0 w.seen w.own ≡ owned z.0 z.1.seen z.1.own in
      ap (λ (z : List Own). z ++ owned_from (j + 1) ss) (subst P (λ i. (here i, at i)) m)
  same_at j n (s ∷ ss) (suc k) v w e at m = ap (λ (z : List Own). owned j s.seen s.own ++ z) (same_at (j + 1) n ss k v w (omega arith) at m)

  -- an entry of the pass's own at the end of a seat's history goes to the end of all that are its own
  pub own_after : (number : ℕ) (ss : List (Place F)) (k : ℕ) (v w : Place F) (made : List Made) (one : Made) → AreOwn number ss → k < length ss → v ≡ get_or ss k v
      → IsPrefix v.seen made → w.seen ≡ made ++ one ∷ [] → w.own ≡ v.own ++ length made ∷ [] → Owns number v.seen v.own → top ss < one.step.stamp
      → by_stamp (owned_from 0 (set ss k w)) ≡ by_stamp (owned_from 0 ss) ++ record { shard = k; place = length made; entry = one.step; told = one.told } ∷ []
  own_after number ss k v w made one o h at begins seen own mine above =
      let x : Own = record { shard = k; place = length made; entry = one.step; told = one.told } in
      let later : IsPrefix v.seen w.seen = (begins.0 ++ one ∷ [], sym (append_assoc v.seen begins.0 (one ∷ [])) ∙ (ap (λ (z : List Made). z ++ one ∷ []) begins.1 ∙ sym seen)) in
      let here : slice_get w.seen (length made) ≡ Some one = ap (λ (z : List Made). slice_get z (length made)) seen ∙ get_last made one in
      let maps : owned k w.seen w.own ≡ owned k v.seen v.own ++ x ∷ [] =
      ap (owned k w.seen) own ∙ (owned-push k w.seen v.own (length made) one here ∙ ap (λ (z : List Own). z ++ x ∷ []) (owned-later number k v.seen w.seen v.own later mine)) in
      let s = split_at 0 k ss k v w x (omega arith) h at maps in
      let below : AllBelow one.step.stamp (s.left ++ s.right) = subst (AllBelow one.step.stamp) s.was (all_below number 0 one.step.stamp ss o above (omega arith)) in
      ap by_stamp s.is ∙ (by_stamp_last s.left s.right x below ∙ ap (λ (z : List Own). by_stamp z ++ x ∷ []) (sym s.was))

  pub own_stays : (number : ℕ) (ss : List (Place F)) (k : ℕ) (v w : Place F) → v ≡ get_or ss k v → IsPrefix v.seen w.seen → w.own ≡ v.own → Owns number v.seen v.own
      → by_stamp (owned_from 0 (set ss k w)) ≡ by_stamp (owned_from 0 ss)
  own_stays number ss k v w at later own mine = ap by_stamp (same_at 0 k ss k v w (omega arith) at (ap (owned k w.seen) own ∙ owned-later number k v.seen w.seen v.own later mine))

  -- the stamps rise with the new one
  pub rises_after : (number stamp : ℕ) (ss : List (Place F)) → AreOwn number ss → top ss < stamp → RisesFrom 0 (map stamp_of (by_stamp (owned_from 0 ss))) → RisesFrom 0 (map stamp_of (by_stamp (owned_from 0 ss)) ++ stamp ∷ [])
  rises_after number stamp ss o above r =
      RisesFrom-push 0 (map stamp_of (by_stamp (owned_from 0 ss))) stamp r (last_below 0 stamp (by_stamp (owned_from 0 ss)) (omega arith) (by_stamp_below stamp (owned_from 0 ss) (all_below number 0 stamp ss o above (omega arith))))
