-- Stamps along a history, and beginnings of it.
use Rattle.std.proofs.Common.{◌≡◌, ℕ, zero, suc, ◌≤◌, ◌<◌, Some, List, [], ◌∷◌, ◌++◌, length, slice_get, refl, sym, ap, subst, arith}
use mathlib.Core.List.{IsPrefix}
use Rattle.wopi_model.specs.Shard.{Entry, RisesFrom, last_from, stamps}
use Rattle.host_core.specs.Entries.{Made}
use Rattle.host_core.specs.Times.{steps_of}
use Rattle.host_table.specs.Histories.{last_stamp}

module _ {A : Type 0} where
  pub prefix_get : (xs ys : List A) (k : ℕ) (x : A) → IsPrefix xs ys → slice_get xs k ≡ Some x → slice_get ys k ≡ Some x
  prefix_get [] ys k x p e = absurd (cc e)
  prefix_get (a ∷ xs) [] k x p e = absurd (cc (p.1))
  prefix_get (a ∷ xs) (b ∷ ys) zero x p e = cc (p.1, e)
  prefix_get (a ∷ xs) (b ∷ ys) (suc k) x p e = prefix_get xs ys k x (p.0, cc (p.1)) e

  pub get_last : (xs : List A) (x : A) → slice_get (xs ++ x ∷ []) (length xs) ≡ Some x
  get_last [] x = refl
  get_last (y ∷ xs) x = get_last xs x

  pub get_inside : (xs : List A) (k : ℕ) (x : A) → slice_get xs k ≡ Some x → k < length xs
  get_inside [] k x e = absurd (cc e)
  get_inside (y ∷ xs) zero x e = omega arith
  get_inside (y ∷ xs) (suc k) x e = let r = get_inside xs k x e in omega arith

pub last-above : (low : ℕ) (xs : List ℕ) → RisesFrom low xs → low ≤ last_from low xs
last-above low [] r = omega arith
last-above low (x ∷ xs) r = let rest = last-above x xs r.1 in let first = r.0 in omega arith

last_from-prefix : (low : ℕ) (xs ys : List Made) → IsPrefix xs ys → RisesFrom low (stamps (steps_of ys)) → last_from low (stamps (steps_of xs)) ≤ last_from low (stamps (steps_of ys))
last_from-prefix low [] ys p r = last-above low (stamps (steps_of ys)) r
last_from-prefix low (x ∷ xs) [] p r = absurd (cc (p.1))
last_from-prefix low (x ∷ xs) (y ∷ ys) p r =
    let heads : x ≡ y = cc (p.1) in
    let P : Made → Type 0 = λ m. last_from m.step.stamp (stamps (steps_of xs)) ≤ last_from y.step.stamp (stamps (steps_of ys)) in
    subst P (sym heads) (last_from-prefix y.step.stamp xs ys (p.0, cc (p.1)) r.1)

-- the last stamp doesn't fall as a history grows
pub last_stamp-prefix : (low : ℕ) (xs ys : List Made) → IsPrefix xs ys → RisesFrom low (stamps (steps_of ys)) → last_stamp low xs ≤ last_stamp low ys
last_stamp-prefix = last_from-prefix

last_from-most : (low k : ℕ) (xs : List Made) (one : Made) → slice_get xs k ≡ Some one → RisesFrom low (stamps (steps_of xs)) → one.step.stamp ≤ last_from low (stamps (steps_of xs))
last_from-most low k [] one e r = absurd (cc e)
last_from-most low zero (x ∷ xs) one e r =
    let heads : x ≡ one = cc e in let same : x.step.stamp ≡ one.step.stamp = ap (λ (m : Made). m.step.stamp) heads in
    let rest = last-above x.step.stamp (stamps (steps_of xs)) r.1 in omega arith
last_from-most low (suc k) (x ∷ xs) one e r = last_from-most x.step.stamp k xs one e r.1

-- no stamp is greater than the last
pub last_stamp-most : (low k : ℕ) (xs : List Made) (one : Made) → slice_get xs k ≡ Some one → RisesFrom low (stamps (steps_of xs)) → one.step.stamp ≤ last_stamp low xs
last_stamp-most = last_from-most

pub steps-long : (made : List Made) → length (steps_of made) ≡ length made
steps-long [] = refl
steps-long (one ∷ made) = ap suc (steps-long made)

pub steps-append : (xs ys : List Made) → steps_of (xs ++ ys) ≡ steps_of xs ++ steps_of ys
steps-append [] ys = refl
steps-append (x ∷ xs) ys = ap (λ (es : List Entry). x.step ∷ es) (steps-append xs ys)
