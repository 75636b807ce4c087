-- How many cells the formulas name together, after a change of one cell.
use Rattle.std.proofs.Common.{◌≡◌, ◌≢◌, ℕ, zero, suc, ◌+◌, ◌<◌, ◌≤◌, List, length, refl, ap, arith, inl, inr}
use Rattle.std.proofs.lemmas.Bool.{cases_eq}
use Rattle.grid_formulas.specs.Cells.{link_count, most_places, reads, sum_below}

sum_same : (f g : ℕ → ℕ) (n : ℕ) → ((q : ℕ) → q < n → f q ≡ g q) → sum_below f n ≡ sum_below g n
unfolding sum_below
sum_same f g zero h = refl
sum_same f g (suc n) h =
    let before = sum_same f g n (λ q lt. h q (omega (arith, lt))) in
    let here = h n (omega arith) in
    omega (arith, before, here)

-- sums that differ at one place alone
sum_but_one : (f g : ℕ → ℕ) (p n : ℕ) → p < n → ((q : ℕ) → q ≢ p → f q ≡ g q) → sum_below f n + g p ≡ sum_below g n + f p
unfolding sum_below
sum_but_one f g p zero lt h = absurd (omega arith)
sum_but_one f g p (suc n) lt h =
    elim (cases_eq n p) as (λ _. sum_below f n + f n + g p ≡ sum_below g n + g n + f p) [
      | inl same ↦
          let before = sum_same f g n (λ q below. h q (λ at. absurd (omega (arith, below, at, same)))) in
          let at_f : f n ≡ f p = ap f same in
          let at_g : g n ≡ g p = ap g same in
          omega (arith, before, at_f, at_g)
      | inr ne ↦
          let before = sum_but_one f g p n (omega (arith, lt, ne)) h in
          let here = h n ne in
          omega (arith, before, here)
    ]

one_of_sum : (f : ℕ → ℕ) (p n : ℕ) → p < n → f p ≤ sum_below f n
unfolding sum_below
one_of_sum f p zero lt = absurd (omega arith)
one_of_sum f p (suc n) lt =
    elim (cases_eq n p) as (λ _. f p ≤ sum_below f n + f n) [
      | inl same ↦ let at : f n ≡ f p = ap f same in omega (arith, at)
      | inr ne ↦ let before = one_of_sum f p n (omega (arith, lt, ne)) in omega (arith, before)
    ]

abbrev named : (ℕ → List ℕ) → ℕ → ℕ
named text place = length (reads (text place))

pub links_changed : (old new : ℕ → List ℕ) (place : ℕ) → place < 102400000 → ((q : ℕ) → q ≢ place → new q ≡ old q) → link_count new + length (reads (old place)) ≡ link_count old + length (reads (new place))
unfolding most_places
links_changed old new place small same = sum_but_one (named new) (named old) place 102400000 small (λ q ne. ap (λ t. length (reads t)) (same q ne))

pub links_of_one : (text : ℕ → List ℕ) (place : ℕ) → place < 102400000 → length (reads (text place)) ≤ link_count text
unfolding most_places
links_of_one text place small = one_of_sum (named text) place 102400000 small
