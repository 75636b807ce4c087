-- Numbers that are those below another, each once.
use Rattle.std.proofs.Common.{◌≡◌, ℕ, ◌≤◌, ◌<◌, Bool, true, false, ltb, List, [], ◌∷◌, map, refl, arith}
use Rattle.std.proofs.lemmas.Bool.Decides.{nat_tests}
use Rattle.std.specs.List.{AllByRecursion}
use Rattle.turn_lock.specs.Places.{times, once_below, AreAllBelow}
use Rattle.host_table.specs.Passes.{PassView}
use Rattle.host_table.specs.Close.{number_of}

module _ {F : Type 0} where
  below_most : (made : ℕ) (ps : List (PassView F)) → ((n : ℕ) → times n (map number_of ps) ≤ once_below n made) → AllByRecursion (λ p. p.number < made) ps
  below_most made [] most = tt
  below_most made (p ∷ ps) most =
      let first = most p.number in
      let here : p.number < made = grind (arith, nat_tests) in
      (here, below_most made ps (λ n. let all = most n in omega arith))

  pub below_all : (made : ℕ) (ps : List (PassView F)) → AreAllBelow made (map number_of ps) → AllByRecursion (λ p. p.number < made) ps
  below_all made ps all = below_most made ps (λ n. let is = all n in omega arith)

  none_above : (made n : ℕ) (ps : List (PassView F)) → made ≤ n → AllByRecursion (λ p. p.number < made) ps → times n (map number_of ps) ≡ 0
  none_above made n [] h below = refl
  none_above made n (p ∷ ps) h below = let first = below.0 in let rest = none_above made n ps h below.1 in grind (arith, nat_tests)

  pub all_below : (made : ℕ) (ps : List (PassView F)) → AllByRecursion (λ p. p.number < made) ps → ((n : ℕ) → n < made → times n (map number_of ps) ≡ 1) → AreAllBelow made (map number_of ps)
  all_below made ps below once n = go (ltb n made) refl where
    go : (b : Bool) → ltb n made ≡ b → times n (map number_of ps) ≡ once_below n made
    go true e = let is : n < made = grind (arith, nat_tests) in let one = once n is in grind (arith, nat_tests)
    go false e = let is : made ≤ n = grind (arith, nat_tests) in let none = none_above made n ps is below in grind (arith, nat_tests)

  pub once_each : (made : ℕ) (ps : List (PassView F)) → AreAllBelow made (map number_of ps) → (n : ℕ) → n < made → times n (map number_of ps) ≡ 1
  once_each made ps all n h = let is = all n in grind (arith, nat_tests)
