-- Sums over a list, and places in a history.
use Rattle.std.proofs.Common.{◌≡◌, ℕ, zero, suc, ◌+◌, ◌≤◌, List, [], ◌∷◌, ◌++◌, set, refl, ap, sym, arith}
use Rattle.std.proofs.lemmas.Bool.Decides.{nat_tests}
use mathlib.Core.Option.{some, some-injective, some-ne-none}
use lib.ListN.{get_elem?}
use Rattle.turn_lock.specs.Places.{total, times, once_below, places_from}

module _ {A : Type 0} (f : A → ℕ) where
  pub total-append : (xs ys : List A) → total f (xs ++ ys) ≡ total f xs + total f ys
  total-append [] ys = omega arith
  total-append (x ∷ xs) ys = omega (arith, total-append xs ys)

  -- after a change of one
  pub total-set : (xs : List A) (i : ℕ) (v w : A) → get_elem? xs i ≡ some v → total f (set xs i w) + f v ≡ total f xs + f w
  total-set [] i v w e = absurd (some-ne-none v (sym e))
  total-set (x ∷ xs) zero v w e = let same : f x ≡ f v = ap f (some-injective x v e) in omega arith
  total-set (x ∷ xs) (suc i) v w e = omega (arith, total-set xs i v w e)

  -- one is at most the sum
  pub total_one : (xs : List A) (i : ℕ) (v : A) → get_elem? xs i ≡ some v → f v ≤ total f xs
  total_one [] i v e = absurd (some-ne-none v (sym e))
  total_one (x ∷ xs) zero v e = let same : f x ≡ f v = ap f (some-injective x v e) in omega arith
  total_one (x ∷ xs) (suc i) v e = omega (arith, total_one xs i v e)

  pub total_zero : (xs : List A) → ((i : ℕ) (v : A) → get_elem? xs i ≡ some v → f v ≡ 0) → total f xs ≡ 0
  total_zero [] each = refl
  total_zero (x ∷ xs) each = let first = each 0 x refl in let others = total_zero xs (λ i v e. each (suc i) v e) in omega arith

pub once_below-le-one : (place n : ℕ) → once_below place n ≤ 1
once_below-le-one place n = grind (arith, nat_tests)

pub times-append : (place : ℕ) (xs ys : List ℕ) → times place (xs ++ ys) ≡ times place xs + times place ys
times-append place [] ys = omega arith
times-append place (y ∷ xs) ys = omega (arith, times-append place xs ys)

-- the places from the first one on are those below their end that aren't below the first
pub times-places_from : (place first n : ℕ) → times place (places_from first n) + once_below place first ≡ once_below place (first + n)
times-places_from place first zero = grind (arith, nat_tests)
times-places_from place first (suc n) = let rest = times-places_from place (suc first) n in grind (arith, nat_tests)
