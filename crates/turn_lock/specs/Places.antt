-- Places in a history, counted from 0, and sums over a list. [own]
use Rattle.std.specs.Prelude.{◌≡◌, ℕ, zero, suc, ◌+◌, ◌-◌, ◌≤◌, ◌==◌, nat_lt, if◌then◌else◌, List, [], ◌∷◌, length}

-- f of each, added up
abbrev pub total : {A : Type 0} → (A → ℕ) → List A → ℕ
total f [] = 0
total f (x ∷ xs) = f x + total f xs

-- how often the place stands in the list
abbrev pub times : ℕ → List ℕ → ℕ
times place [] = 0
times place (x ∷ xs) = (if place == x then 1 else 0) + times place xs

-- 1 for a place below n, and 0 for any other
abbrev pub once_below : ℕ → ℕ → ℕ
once_below place n = if nat_lt place n then 1 else 0

-- each place below n stands in the list once, and no other place stands in it
abbrev pub AreAllBelow : ℕ → List ℕ → Type 0
AreAllBelow n xs = (place : ℕ) → times place xs ≡ once_below place n

-- no place stands in the list twice
abbrev pub AreDistinct : List ℕ → Type 0
AreDistinct xs = (place : ℕ) → times place xs ≤ 1

-- so many places, from the first one on
abbrev pub places_from : ℕ → ℕ → List ℕ
places_from first zero = []
places_from first (suc n) = first ∷ places_from (suc first) n

-- the places that a list has behind those of its beginning
abbrev pub places_behind : {E : Type 0} → List E → List E → List ℕ
places_behind beginning whole = places_from (length beginning) (length whole - length beginning)

-- the longer of two lists, and the first where both are as long
abbrev pub longer : {E : Type 0} → List E → List E → List E
longer xs ys = if nat_lt (length xs) (length ys) then ys else xs
