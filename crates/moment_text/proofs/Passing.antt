-- Where places pass one by one, the one that is reached is that in which the day lies.
use Rattle.std.proofs.Common.{◌≡◌, ℕ, zero, suc, ◌+◌, ◌-◌, ◌<◌, ◌≤◌, nat_lt, true, false, refl, ap, ◌∙◌, sym, arith}
use Rattle.std.proofs.lemmas.Bool.Decides.{nat_tests}
use Rattle.moment_text.specs.Dates.{passed}

stays : (lengths : ℕ → ℕ) (most place days : ℕ) → days < lengths place → passed lengths most place days ≡ (place, days)
unfolding passed
stays lengths zero place days h = refl
stays lengths (suc most) place days h =
    let test : nat_lt days (lengths place) ≡ true = grind (arith, nat_tests) in
    rw test

goes_on : (lengths : ℕ → ℕ) (most place days : ℕ) → lengths place ≤ days → passed lengths (suc most) place days ≡ passed lengths most (suc place) (days - lengths place)
unfolding passed
goes_on lengths most place days h =
    let test : nat_lt days (lengths place) ≡ false = grind (arith, nat_tests) in
    rw test

-- each place begins where the one before it ends
abbrev pub Follows : (ℕ → ℕ) → (ℕ → ℕ) → ℕ → Type 0
Follows lengths start first = (place : ℕ) → first ≤ place → start (suc place) ≡ start place + lengths place

later : (lengths start : ℕ → ℕ) (first : ℕ) → Follows lengths start first → (gap place last : ℕ) → first ≤ place → last ≡ place + gap → start place ≤ start last
later lengths start first follows zero place last low e =
    let same : last ≡ place = omega arith in
    omega (arith, ap start same)
later lengths start first follows (suc gap) place last low e =
    let next = follows place low in
    let above = later lengths start first follows gap (suc place) last (omega arith) (omega arith) in
    omega (arith, next, above)

pub reaches : (lengths start : ℕ → ℕ) (first : ℕ) → Follows lengths start first
    → (gap most place last days left : ℕ) → first ≤ place → last ≡ place + gap → gap ≤ most → left < lengths last
    → start last + left ≡ start place + days → passed lengths most place days ≡ (last, left)
reaches lengths start first follows zero most place last days left low e few within total =
    let same : last ≡ place = omega arith in
    let days_are : days ≡ left = omega (arith, total, ap start same) in
    let short : days < lengths place = omega (arith, within, days_are, ap lengths same) in
    stays lengths most place days short ∙ (λ i. (sym same i, days_are i))
reaches lengths start first follows (suc gap) zero place last days left low e few within total = absurd (omega (arith, few))
reaches lengths start first follows (suc gap) (suc most) place last days left low e few within total =
    let next = follows place low in
    let above = later lengths start first follows gap (suc place) last (omega (arith, low)) (omega (arith, e)) in
    let long : lengths place ≤ days = omega (arith, next, above, total) in
    let rest : start last + left ≡ start (suc place) + (days - lengths place) = omega (arith, next, long, total) in
    goes_on lengths most place days long
    ∙ reaches lengths start first follows gap most (suc place) last (days - lengths place) left (omega (arith, low)) (omega (arith, e)) (omega (arith, few)) within rest
