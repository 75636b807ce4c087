-- When files were stepped, and what their chains have from then on.
use Rattle.std.proofs.Common.{◌≡◌, inl, inr, ◌≤◌, ℕ, zero, suc, List, [], ◌∷◌, ◌++◌, map, Some, refl, sym, ap, ◌∙◌, arith}
use Rattle.std.specs.Prelude.{slice_get, max}
use Rattle.std.proofs.lemmas.Bool.{cases_eq}
use Rattle.wopi_model.specs.Settle.{still_spent}
use Rattle.wopi_model.specs.declared.locks.Spent.{Spent}
use Rattle.expiry_queue.specs.Chains.{Chains, spent_of}
use Rattle.kept_locks.specs.declared.places.Place.{Place}
use Rattle.kept_locks.specs.Refusals.{shown_of}
use Rattle.kept_locks.specs.Ties.{Puts, bare, chains_in, latest_of, standings}
use Rattle.kept_locks.proofs.Trails.{shown_later}

-- no file was stepped later
pub as_late : (places : List Place) (i : ℕ) (p : Place) → slice_get places i ≡ Some p → p.trail.as_of ≤ latest_of places
as_late [] i p e = absurd (cc)
as_late (first ∷ places) zero p e =
    let this : first ≡ p = cc in
    let same : first.trail.as_of ≡ p.trail.as_of = ap (λ (q : Place). q.trail.as_of) this in
    omega (arith, same)
as_late (first ∷ places) (suc i) p e =
    let rest = as_late places i p e in
    omega (arith, rest)

no_later : (places : List Place) (most : ℕ) → ((i : ℕ) (p : Place) → slice_get places i ≡ Some p → p.trail.as_of ≤ most) → latest_of places ≤ most
no_later [] most h = omega arith
no_later (first ∷ places) most h =
    let here = h 0 first refl in
    let rest = no_later places most (λ i. h (suc i)) in
    omega (arith, here, rest)

-- one file was stepped by then, and the others stay
pub latest_put : (places places' : List Place) (i : ℕ) (place : Place) (most : ℕ) → Puts places places' i place → latest_of places ≤ most → place.trail.as_of ≤ most → latest_of places' ≤ most
latest_put places places' i place most puts all this = no_later places' most (λ j p found. elim (cases_eq j i) [
  | inl here ↦
      let is : place ≡ p = cc (puts.here, found, here) in
      let same : place.trail.as_of ≡ p.trail.as_of = ap (λ (q : Place). q.trail.as_of) is in
      omega (arith, same, this)
  | inr differs ↦
      let le = as_late places j p (sym (puts.others j differs) ∙ found) in
      omega (arith, le, all)
])

pub latest_added : (places places' : List Place) → places' ≡ places ++ bare ∷ [] → latest_of places' ≡ latest_of places
latest_added places places' is = ap latest_of is ∙ added places
  where
    added : (places : List Place) → latest_of (places ++ bare ∷ []) ≡ latest_of places
    added [] = refl
    added (first ∷ places) = ap (max first.trail.as_of) (added places)

-- each file's chain, from the latest step on
pub still_chained : (chains : Chains) (places : List Place) (now : ℕ) → latest_of places ≤ now
    → map (λ chain. still_spent chain now) (chains_in chains places) ≡ map (λ file. still_spent file.spent now) (standings chains places)
still_chained chains [] now le = refl
still_chained chains (place ∷ places) now le =
    let by : place.trail.as_of ≤ now = omega (arith, le) in
    let rest : latest_of places ≤ now = omega (arith, le) in
    ap (λ (l : List Spent). l ∷ map (λ chain. still_spent chain now) (chains_in chains places)) (shown_later place.trail.purged (spent_of chains place.trail.chain) place.trail.as_of now by)
    ∙ ap (λ (l : List (List Spent)). still_spent (shown_of chains place.trail) now ∷ l) (still_chained chains places now rest)
