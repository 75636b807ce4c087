-- Spots that are sorted, and the entries that stand there.
use Rattle.std.proofs.Common.{◌≡◌, ◌⊎◌, inl, inr, ℕ, zero, suc, ◌+◌, ◌*◌, ◌≤◌, ◌<◌, ◌==◌, Bool, true, false, cond, if◌then◌else◌, ltb, Option, None, Some, List, [], ◌∷◌, ◌++◌, length, get_or, slice_get, sum_by, refl, ap, sym, subst, ◌∙◌, arith, IsPermutation}
use Rattle.std.proofs.lemmas.Bool.Decides.{nat_tests}
use Rattle.std.proofs.lemmas.List.Sums.{sum_by-cons}
use Rattle.std.proofs.lemmas.List.Sorted.{IsPermutation-sym, Contains-permutation, sum_by-IsPermutation}
use Rattle.std.specs.List.{AllByRecursion}
use Rattle.std.specs.List.Sorted.{IsNonDecreasingBy}
use Rattle.turn_lock.specs.Places.{total}
use Rattle.turn_lock.proofs.Sums.{total-append}
use Rattle.wopi_model.specs.Shard.{Entry, RisesFrom, stamps}
use Rattle.wopi_model.specs.Host.{shard_of_entry, ComesBefore, IsInOrder}
use Rattle.host_core.specs.Entries.{Made}
use Rattle.host_core.specs.Value.{Left}
use Rattle.host_table.specs.declared.journal.Spot.{Spot}
use Rattle.host_core.specs.Times.{steps_of}
use Rattle.host_table.specs.Histories.{AreNamed}
use Rattle.host_table.specs.Journal.{order_of, spots_from, all_spots, made_in, found, with_found, merge_of, IsFound, AreFound}
use Rattle.host_table.proofs.Order.{Has, has_left, has_right, all_at, all_of, has_contained, contained_has}

-- 1 at a spot of that order
abbrev one_if : ℕ → Spot → ℕ
one_if k s = if order_of s == k then 1 else 0

sums_same : (f : Spot → ℕ) (xs : List Spot) → sum_by f xs ≡ total f xs
sums_same f [] = refl
sums_same f (x ∷ xs) = sum_by-cons f x xs ∙ ap (λ (n : ℕ). f x + n) (sums_same f xs)

-- how many spots of one order there are doesn't depend on how they lie
count_permutation : (k : ℕ) (xs ys : List Spot) → IsPermutation xs ys → total (one_if k) ys ≡ total (one_if k) xs
count_permutation k xs ys p = sym (sums_same (one_if k) ys) ∙ (sum_by-IsPermutation (one_if k) xs ys p ∙ sums_same (one_if k) xs)

abbrev CountsOne : ℕ → ℕ → ℕ → ℕ → Type 0
CountsOne n k low shard = (n ≡ 0) ⊎ ((n ≡ 1) × (s : ℕ) × (k ≡ s * 16 + shard) × (low < s))

one_more : (k shard low stamp rest : ℕ) (spot : Spot) → order_of spot ≡ stamp * 16 + shard → low < stamp → (b : Bool) → (order_of spot == k) ≡ b → CountsOne rest k stamp shard → CountsOne (one_if k spot + rest) k low shard
one_more k shard low stamp rest spot is above true e c =
    let here : stamp * 16 + shard ≡ k = grind (arith, nat_tests) in
    let first : one_if k spot ≡ 1 = grind (arith, nat_tests) in
    elim c as (λ _. CountsOne (one_if k spot + rest) k low shard) [
      | inl none ↦ inr (omega (arith, first, none), stamp, sym here, above)
      | inr more ↦ absurd (omega (arith, here, more.2, more.3))
    ]
one_more k shard low stamp rest spot is above false e c =
    let first : one_if k spot ≡ 0 = grind (arith, nat_tests) in
    elim c as (λ _. CountsOne (one_if k spot + rest) k low shard) [
      | inl none ↦ inl (omega (arith, first, none))
      | inr more ↦ inr (omega (arith, first, more.0), more.1, more.2, omega (arith, more.3, above))
    ]

-- along one shard's entries no order comes twice
one_shard : (k shard place low : ℕ) (made : List Made) → RisesFrom low (stamps (steps_of made)) → CountsOne (total (one_if k) (spots_from shard place made)) k low shard
one_shard k shard place low [] r = inl refl
one_shard k shard place low (one ∷ made) r =
    let spot : Spot = record { stamp = one.step.stamp; shard = shard; place = place } in
    one_more k shard low one.step.stamp (total (one_if k) (spots_from shard (place + 1) made)) spot refl r.0 (order_of spot == k) refl (one_shard k shard (place + 1) one.step.stamp made r.1)

abbrev CountsOneOf : ℕ → ℕ → ℕ → Type 0
CountsOneOf n k j = (n ≡ 0) ⊎ ((n ≡ 1) × (s : ℕ) × (i : ℕ) × (k ≡ s * 16 + i) × (j ≤ i) × (i < 16))

module _ {F : Type 0} where
  -- each shard's stamps rise
  abbrev pub AreRising : List (Left F) → Type 0
  AreRising parts = AllByRecursion (λ part. RisesFrom 0 (stamps (steps_of part.made))) parts

  one_of_all : (k j : ℕ) (parts : List (Left F)) → j + length parts ≤ 16 → AreRising parts → CountsOneOf (total (one_if k) (all_spots j parts)) k j
  one_of_all k j [] h r = inl refl
  one_of_all k j (part ∷ parts) h r =
      let rest = one_of_all k (j + 1) parts (omega arith) r.1 in
      let sums = total-append (one_if k) (spots_from j 0 part.made) (all_spots (j + 1) parts) in
      elim (one_shard k j 0 0 part.made r.0) as (λ _. CountsOneOf (total (one_if k) (spots_from j 0 part.made ++ all_spots (j + 1) parts)) k j) [
        | inl none ↦ elim rest as (λ _. CountsOneOf (total (one_if k) (spots_from j 0 part.made ++ all_spots (j + 1) parts)) k j) [
          | inl nothing ↦ inl (omega (arith, sums, none, nothing))
          | inr more ↦ inr (omega (arith, sums, none, more.0), more.1, more.2, more.3, omega (arith, more.4), more.5)
        ]
        | inr one ↦ elim rest as (λ _. CountsOneOf (total (one_if k) (spots_from j 0 part.made ++ all_spots (j + 1) parts)) k j) [
          | inl nothing ↦ inr (omega (arith, sums, one.0, nothing), one.1, j, one.2, omega arith, omega arith)
          | inr more ↦ absurd (omega (arith, one.2, more.3, more.4, more.5))
        ]
      ]

  pub never_twice : (k : ℕ) (parts : List (Left F)) → length parts ≤ 16 → AreRising parts → total (one_if k) (all_spots 0 parts) ≤ 1
  never_twice k parts h r = elim (one_of_all k 0 parts (omega arith) r) as (λ _. total (one_if k) (all_spots 0 parts) ≤ 1) [ inl none ↦ omega (arith, none) | inr one ↦ omega (arith, one.0) ]

abbrev pub AreStrict : List Spot → Type 0
AreStrict [] = Unit {0}
AreStrict (s ∷ rest) = AllByRecursion (λ t. order_of s < order_of t) rest × AreStrict rest

above_all : (n : ℕ) (rest : List Spot) → ((j : ℕ) (d : Spot) → j < length rest → n ≤ order_of (get_or rest j d)) → total (one_if n) rest ≡ 0 → AllByRecursion (λ t. n < order_of t) rest
above_all n [] le none = tt
above_all n (t ∷ rest) le none =
    let first : n ≤ order_of t = le 0 t (omega arith) in
    let here : n < order_of t = grind (arith, nat_tests) in
    let left : total (one_if n) rest ≡ 0 = omega arith in
    (here, above_all n rest (λ j d h. le (suc j) d (omega arith)) left)

-- what is sorted and has no order twice is strictly sorted
strict_of : (xs : List Spot) → IsNonDecreasingBy order_of xs → ((k : ℕ) → total (one_if k) xs ≤ 1) → AreStrict xs
strict_of [] up once = tt
strict_of (s ∷ rest) up once =
    let here : one_if (order_of s) s ≡ 1 = grind (arith, nat_tests) in
    let most = once (order_of s) in
    let none : total (one_if (order_of s)) rest ≡ 0 = omega arith in
    (above_all (order_of s) rest (λ j d h. up 0 (suc j) d (omega arith) (omega arith)) none, strict_of rest (λ i j d h l. up (suc i) (suc j) d (omega arith) (omega arith)) (λ k. let m = once k in omega arith))

-- at the spot stands an entry of that stamp, in its name's shard
abbrev pub IsGood : {F : Type 0} → List (Left F) → Spot → Type 0
IsGood parts spot = (one : Made) × (found parts spot ≡ Some one) × (spot.stamp ≡ one.step.stamp) × (spot.shard ≡ shard_of_entry one.step)

before_of : (a b : Entry) → a.stamp * 16 + shard_of_entry a < b.stamp * 16 + shard_of_entry b → shard_of_entry a < 16 → shard_of_entry b < 16 → ComesBefore a b
before_of a b h p q = go (ltb a.stamp b.stamp) refl where
  go : (c : Bool) → ltb a.stamp b.stamp ≡ c → ComesBefore a b
  go true e = let l : a.stamp < b.stamp = grind (arith, nat_tests) in inl l
  go false e = let m : b.stamp ≤ a.stamp = grind (arith, nat_tests) in inr (omega arith, omega arith)

module _ {F : Type 0} (parts : List (Left F)) where
  abbrev AreGood : List Spot → Type 0
  AreGood spots = AllByRecursion (IsGood parts) spots

  good_found : (spots : List Spot) → AreGood spots → AreFound parts spots
  good_found [] a = tt
  good_found (s ∷ spots) a = (subst IsFound (sym a.0.1) tt, good_found spots a.1)

  good_order : (s : Spot) (g : IsGood parts s) → order_of s ≡ g.0.step.stamp * 16 + shard_of_entry g.0.step
  good_order s g = λ i. g.2 i * 16 + g.3 i

  merged_all : (s : Spot) (g : IsGood parts s) (rest : List Spot) → AllByRecursion (λ t. order_of s < order_of t) rest → AreGood rest → AllByRecursion (ComesBefore g.0.step) (steps_of (merge_of parts rest))
  merged_all s g [] a are = tt
  merged_all s g (t ∷ rest) a are =
      let h = are.0 in
      let one = good_order s g in let two = good_order t h in
      let P : Option Made → Type 0 = λ o. AllByRecursion (ComesBefore g.0.step) (steps_of (with_found o (merge_of parts rest))) in
      subst P (sym h.1) (before_of g.0.step h.0.step (omega (arith, one, two, a.0)) (omega arith) (omega arith), merged_all s g rest a.1 are.1)

  merged_ordered : (spots : List Spot) → AreStrict spots → AreGood spots → IsInOrder (steps_of (merge_of parts spots))
  merged_ordered [] strict are = tt
  merged_ordered (s ∷ spots) strict are =
      let g = are.0 in
      let P : Option Made → Type 0 = λ o. IsInOrder (steps_of (with_found o (merge_of parts spots))) in
      subst P (sym g.1) (merged_all s g spots strict.0 are.1, merged_ordered spots strict.1 are.1)

  merge_has : (spots : List Spot) (one : Made) → AreGood spots → Has (merge_of parts spots) one → (s : Spot) × Has spots s × (found parts s ≡ Some one)
  merge_has [] one are h = absurd h
  merge_has (s ∷ spots) one are h =
      let g = are.0 in
      let P : Option Made → Type 0 = λ o. Has (with_found o (merge_of parts spots)) one in
      let k : (g.0 ≡ one) ⊎ Has (merge_of parts spots) one = subst P g.1 h in
      elim k as (λ _. (t : Spot) × Has (s ∷ spots) t × (found parts t ≡ Some one)) [
        | inl e ↦ (s, inl refl, g.1 ∙ ap Some e)
        | inr j ↦ let r = merge_has spots one are.1 j in (r.0, inr r.1, r.2)
      ]

  has_merge : (spots : List Spot) (s : Spot) (one : Made) → AreGood spots → Has spots s → found parts s ≡ Some one → Has (merge_of parts spots) one
  has_merge [] s one are h e = absurd h
  has_merge (t ∷ spots) s one are h e =
      let g = are.0 in
      let P : Option Made → Type 0 = λ o. Has (with_found o (merge_of parts spots)) one in
      let k : (g.0 ≡ one) ⊎ Has (merge_of parts spots) one = elim h as (λ _. (g.0 ≡ one) ⊎ Has (merge_of parts spots) one) [
        | inl same ↦ inl (cc (g.1, ap (found parts) same, e))
        | inr j ↦ inr (has_merge spots s one are.1 j e)
      ] in
      subst P (sym g.1) k

spots_have : (shard place : ℕ) (made : List Made) (k : ℕ) (one : Made) → slice_get made k ≡ Some one → Has (spots_from shard place made) (record { stamp = one.step.stamp; shard = shard; place = place + k })
spots_have shard place [] k one e = absurd (cc e)
spots_have shard place (x ∷ made) zero one e =
    let same : x ≡ one = cc e in let here : place ≡ place + 0 = omega arith in inl (λ i. record { stamp = (same i).step.stamp; shard = shard; place = here i })
spots_have shard place (x ∷ made) (suc k) one e =
    let next : (place + 1) + k ≡ place + suc k = omega arith in
    let P : ℕ → Type 0 = λ n. Has (spots_from shard (place + 1) made) (record { stamp = one.step.stamp; shard = shard; place = n }) in
    inr (subst P next (spots_have shard (place + 1) made k one e))

all_have : {F : Type 0} (j : ℕ) (parts : List (Left F)) (i : ℕ) (part : Left F) (k : ℕ) (one : Made) → slice_get parts i ≡ Some part → slice_get part.made k ≡ Some one
    → Has (all_spots j parts) (record { stamp = one.step.stamp; shard = j + i; place = k })
all_have j [] i part k one e f = absurd (cc e)
all_have j (p ∷ parts) zero part k one e f =
    let same : p ≡ part = cc e in let here : j ≡ j + 0 = omega arith in let first : 0 + k ≡ k = omega arith in
    let there : slice_get p.made k ≡ Some one = ap (λ (z : Left _). slice_get z.made k) same ∙ f in
    let P : ℕ × ℕ → Type 0 = λ n. Has (spots_from j 0 p.made) (record { stamp = one.step.stamp; shard = n.0; place = n.1 }) in
    let both : (j, 0 + k) ≡ (j + 0, k) = λ i. (here i, first i) in
    has_left (spots_from j 0 p.made) (all_spots (j + 1) parts) _ (subst P both (spots_have j 0 p.made k one there))
all_have j (p ∷ parts) (suc i) part k one e f =
    let next : (j + 1) + i ≡ j + suc i = omega arith in
    let P : ℕ → Type 0 = λ n. Has (all_spots (j + 1) parts) (record { stamp = one.step.stamp; shard = n; place = k }) in
    has_right (spots_from j 0 p.made) (all_spots (j + 1) parts) _ (subst P next (all_have (j + 1) parts i part k one e f))

-- each shard's entries stand in their names' shard
abbrev pub ArePlaced : {F : Type 0} → ℕ → List (Left F) → Type 0
ArePlaced j [] = Unit {0}
ArePlaced j (part ∷ parts) = AreNamed (Some j) part.made × ArePlaced (j + 1) parts

good_spots : {F : Type 0} (all : List (Left F)) (j place : ℕ) (part : Left F) (made : List Made) → slice_get all j ≡ Some part → ((k : ℕ) → slice_get part.made (place + k) ≡ slice_get made k) → AreNamed (Some j) made
    → AllByRecursion (IsGood all) (spots_from j place made)
good_spots all j place part [] at same named = tt
good_spots all j place part (one ∷ made) at same named =
    let here : slice_get part.made place ≡ Some one = let z : place + 0 ≡ place = omega arith in ap (slice_get part.made) (sym z) ∙ same 0 in (
      (one, ap (λ (o : Option (Left _)). made_in o place) at ∙ here, refl, sym named.0),
      good_spots all j (place + 1) part made at (λ k. let n : (place + 1) + k ≡ place + suc k = omega arith in ap (slice_get part.made) n ∙ same (suc k)) named.1,
    )

pub good_all : {F : Type 0} (all : List (Left F)) (j : ℕ) (parts : List (Left F)) → ((k : ℕ) → slice_get all (j + k) ≡ slice_get parts k) → ArePlaced j parts → AllByRecursion (IsGood all) (all_spots j parts)
good_all all j [] same placed = tt
good_all all j (part ∷ parts) same placed =
    let here : slice_get all j ≡ Some part = let z : j + 0 ≡ j = omega arith in ap (slice_get all) (sym z) ∙ same 0 in
    both_good (spots_from j 0 part.made) (all_spots (j + 1) parts) (good_spots all j 0 part part.made here (λ k. let z : 0 + k ≡ k = omega arith in ap (slice_get part.made) z) placed.0)
    (good_all all (j + 1) parts (λ k. let n : (j + 1) + k ≡ j + suc k = omega arith in ap (slice_get all) n ∙ same (suc k)) placed.1) where
      both_good : (xs ys : List Spot) → AllByRecursion (IsGood all) xs → AllByRecursion (IsGood all) ys → AllByRecursion (IsGood all) (xs ++ ys)
      both_good [] ys a b = b
      both_good (x ∷ xs) ys a b = (a.0, both_good xs ys a.1 b)

-- spots that are those of the shards, in their order
pub record AreSorted {F : Type 0} (parts : List (Left F)) (sorted : List Spot) : Type 0 where
  pub strict : AreStrict sorted
  pub of : (spot : Spot) → Has sorted spot → Has (all_spots 0 parts) spot
  pub all : (spot : Spot) → Has (all_spots 0 parts) spot → Has sorted spot

-- as a sort leaves them
pub are_sorted : {F : Type 0} (parts : List (Left F)) (sorted : List Spot) → length parts ≤ 16 → AreRising parts → IsPermutation (all_spots 0 parts) sorted → IsNonDecreasingBy order_of sorted → AreSorted parts sorted
are_sorted parts sorted few rising moved up = record {
  strict = strict_of sorted up (λ k. let c = count_permutation k (all_spots 0 parts) sorted moved in let n = never_twice k parts few rising in omega arith);
  of = λ s h. contained_has (all_spots 0 parts) s (Contains-permutation sorted (all_spots 0 parts) s (IsPermutation-sym (all_spots 0 parts) sorted moved) (has_contained sorted s h));
  all = λ s h. contained_has sorted s (Contains-permutation (all_spots 0 parts) sorted s moved (has_contained (all_spots 0 parts) s h));
}

-- the entries at spots that were sorted: they are in order, and just those of the shards
module _ {F : Type 0} (parts : List (Left F)) (sorted : List Spot) (placed : ArePlaced 0 parts) (is : AreSorted parts sorted) where
  good_sorted : AllByRecursion (IsGood parts) sorted
  good_sorted =
      let goods = good_all parts 0 parts (λ k. let z : 0 + k ≡ k = omega arith in ap (slice_get parts) z) placed in
      all_of (IsGood parts) sorted (λ s h. all_at (IsGood parts) (all_spots 0 parts) s goods (is.of s h))

  pub sorted_found : AreFound parts sorted
  sorted_found = good_found parts sorted good_sorted

  pub sorted_ordered : IsInOrder (steps_of (merge_of parts sorted))
  sorted_ordered = merged_ordered parts sorted is.strict good_sorted

  pub entry_has : (i : ℕ) (part : Left F) (k : ℕ) (one : Made) → slice_get parts i ≡ Some part → slice_get part.made k ≡ Some one → Has (merge_of parts sorted) one
  entry_has i part k one e f =
      let z : 0 + i ≡ i = omega arith in
      let s : Spot = record { stamp = one.step.stamp; shard = i; place = k } in
      let P : ℕ → Type 0 = λ n. Has (all_spots 0 parts) (record { stamp = one.step.stamp; shard = n; place = k }) in
      let there : Has (all_spots 0 parts) s = subst P z (all_have 0 parts i part k one e f) in
      let found_is : found parts s ≡ Some one = ap (λ (o : Option (Left F)). made_in o k) e ∙ f in
      has_merge parts sorted s one good_sorted (is.all s there) found_is

  pub has_entry : (one : Made) → Has (merge_of parts sorted) one → (i : ℕ) × (k : ℕ) × (part : Left F) × (slice_get parts i ≡ Some part) × (slice_get part.made k ≡ Some one) × (shard_of_entry one.step ≡ i)
  has_entry one h =
      let m = merge_has parts sorted one good_sorted h in
      let g = all_at (IsGood parts) sorted m.0 good_sorted m.1 in
      let same : g.0 ≡ one = cc (g.1, m.2) in
      let p = in_part (slice_get parts m.0.shard) m.0.place one m.2 in
      (m.0.shard, m.0.place, p.0, p.1, p.2, sym (g.3 ∙ ap (λ (z : Made). shard_of_entry z.step) same)) where
        in_part : (o : Option (Left F)) (place : ℕ) (one : Made) → made_in o place ≡ Some one → (part : Left F) × (o ≡ Some part) × (slice_get part.made place ≡ Some one)
        in_part None place one e = absurd (cc e)
        in_part (Some part) place one e = (part, refl, e)

-- into spots in their order
abbrev put_spot : Spot → List Spot → List Spot
put_spot s [] = s ∷ []
put_spot s (x ∷ xs) = if ltb (order_of x) (order_of s) then x ∷ put_spot s xs else s ∷ x ∷ xs

abbrev pub in_order : List Spot → List Spot
in_order [] = []
in_order (s ∷ spots) = put_spot s (in_order spots)

spot_put : (s : Spot) (xs : List Spot) (o : Spot) → Has (s ∷ xs) o → Has (put_spot s xs) o
spot_put s [] o h = h
spot_put s (x ∷ xs) o h = go (ltb (order_of x) (order_of s)) (λ k. spot_put s xs o k) h where
  go : (b : Bool) → (Has (s ∷ xs) o → Has (put_spot s xs) o) → Has (s ∷ x ∷ xs) o → Has (cond b (x ∷ put_spot s xs) (s ∷ x ∷ xs)) o
  go true rec h = elim h as (λ _. Has (x ∷ put_spot s xs) o) [
    | inl e ↦ inr (rec (inl e))
    | inr k ↦ elim k as (λ _. Has (x ∷ put_spot s xs) o) [ inl e ↦ inl e | inr l ↦ inr (rec (inr l)) ]
  ]
  go false rec h = h

put_from : (s : Spot) (xs : List Spot) (o : Spot) → Has (put_spot s xs) o → Has (s ∷ xs) o
put_from s [] o h = h
put_from s (x ∷ xs) o h = go (ltb (order_of x) (order_of s)) (λ k. put_from s xs o k) h where
  go : (b : Bool) → (Has (put_spot s xs) o → Has (s ∷ xs) o) → Has (cond b (x ∷ put_spot s xs) (s ∷ x ∷ xs)) o → Has (s ∷ x ∷ xs) o
  go true rec h = elim h as (λ _. Has (s ∷ x ∷ xs) o) [
    | inl e ↦ inr (inl e)
    | inr k ↦ elim (rec k) as (λ _. Has (s ∷ x ∷ xs) o) [ inl e ↦ inl e | inr l ↦ inr (inr l) ]
  ]
  go false rec h = h

order_has : (xs : List Spot) (o : Spot) → Has xs o → Has (in_order xs) o
order_has [] o h = h
order_has (x ∷ xs) o h = spot_put x (in_order xs) o (elim h as (λ _. Has (x ∷ in_order xs) o) [ inl e ↦ inl e | inr k ↦ inr (order_has xs o k) ])

has_order : (xs : List Spot) (o : Spot) → Has (in_order xs) o → Has xs o
has_order [] o h = h
has_order (x ∷ xs) o h = elim (put_from x (in_order xs) o h) as (λ _. Has (x ∷ xs) o) [ inl e ↦ inl e | inr k ↦ inr (has_order xs o k) ]

put_counts : (k : ℕ) (s : Spot) (xs : List Spot) → total (one_if k) (put_spot s xs) ≡ one_if k s + total (one_if k) xs
put_counts k s [] = refl
put_counts k s (x ∷ xs) = go (ltb (order_of x) (order_of s)) (put_counts k s xs) where
  go : (b : Bool) → total (one_if k) (put_spot s xs) ≡ one_if k s + total (one_if k) xs → total (one_if k) (cond b (x ∷ put_spot s xs) (s ∷ x ∷ xs)) ≡ one_if k s + (one_if k x + total (one_if k) xs)
  go true rec = omega (arith, rec)
  go false rec = refl

order_counts : (k : ℕ) (xs : List Spot) → total (one_if k) (in_order xs) ≡ total (one_if k) xs
order_counts k [] = refl
order_counts k (x ∷ xs) = put_counts k x (in_order xs) ∙ ap (λ (n : ℕ). one_if k x + n) (order_counts k xs)

above_put : (n : ℕ) (s : Spot) (xs : List Spot) → n < order_of s → AllByRecursion (λ t. n < order_of t) xs → AllByRecursion (λ t. n < order_of t) (put_spot s xs)
above_put n s [] h a = (h, tt)
above_put n s (x ∷ xs) h a = elim (ltb (order_of x) (order_of s)) as (λ b. AllByRecursion (λ t. n < order_of t) (cond b (x ∷ put_spot s xs) (s ∷ x ∷ xs))) [ true ↦ (a.0, above_put n s xs h a.1) | false ↦ (h, a) ]

above_more : (n m : ℕ) (xs : List Spot) → n < m → AllByRecursion (λ t. m < order_of t) xs → AllByRecursion (λ t. n < order_of t) xs
above_more n m [] h a = tt
above_more n m (x ∷ xs) h a = (omega (arith, a.0), above_more n m xs h a.1)

put_strict : (s : Spot) (xs : List Spot) → AreStrict xs → total (one_if (order_of s)) xs ≡ 0 → AreStrict (put_spot s xs)
put_strict s [] a none = (tt, tt)
put_strict s (x ∷ xs) a none = go (ltb (order_of x) (order_of s)) refl (put_strict s xs a.1 (omega arith)) where
  differ : one_if (order_of s) x ≡ 0
  differ = omega (arith, none)

  go : (b : Bool) → ltb (order_of x) (order_of s) ≡ b → AreStrict (put_spot s xs) → AreStrict (cond b (x ∷ put_spot s xs) (s ∷ x ∷ xs))
  go true e rest = let l : order_of x < order_of s = grind (arith, nat_tests) in (above_put (order_of x) s xs l a.0, rest)
  go false e rest = let d = differ in let l : order_of s < order_of x = grind (arith, nat_tests) in ((l, above_more (order_of s) (order_of x) xs l a.0), a)

order_strict : (xs : List Spot) → ((k : ℕ) → total (one_if k) xs ≤ 1) → AreStrict (in_order xs)
order_strict [] once = tt
order_strict (x ∷ xs) once =
    let here : one_if (order_of x) x ≡ 1 = grind (arith, nat_tests) in
    let most = once (order_of x) in let same = order_counts (order_of x) xs in
    put_strict x (in_order xs) (order_strict xs (λ k. let m = once k in omega arith)) (omega (arith, here, most, same))

-- spots can be put in their order
pub can_sort : {F : Type 0} (parts : List (Left F)) → length parts ≤ 16 → AreRising parts → AreSorted parts (in_order (all_spots 0 parts))
can_sort parts few rising = record { strict = order_strict (all_spots 0 parts) (λ k. never_twice k parts few rising); of = has_order (all_spots 0 parts); all = order_has (all_spots 0 parts) }
