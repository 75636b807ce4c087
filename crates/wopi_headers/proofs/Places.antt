-- The place of the first element that passes.
use Rattle.std.proofs.Common.{◌≡◌, ◌==◌, ℕ, suc, ◌≤◌, ◌<◌, Bool, true, false, cond, List, ◌∷◌, length, get_or, drop, nat_lt, not, Some, None, refl, sym, ap, ◌∙◌, arith, add-one, eqb-true, drop-cons}
use Rattle.std.specs.Prelude.{unwrap_or, position}
use Rattle.std.specs.List.{position_or_len, after_first}
use Rattle.std.proofs.lemmas.Bool.{ltb-false}
use Rattle.std.proofs.lemmas.List.Sums.{prefix_len-le-length, passes_at_first}

pub place_inside : (p : ℕ → Bool) (xs : List ℕ) → position_or_len p xs ≤ length xs
place_inside p xs = prefix_len-le-length (λ x. not (p x)) xs

chosen : (b : Bool) (at len : ℕ) → (b ≡ false → at ≡ len) → unwrap_or (cond b (Some at) None) len ≡ at
chosen true at len f = refl
chosen false at len f = sym (f refl)

pub place_is : (p : ℕ → Bool) (xs : List ℕ) → unwrap_or (position p xs) (length xs) ≡ position_or_len p xs
place_is p xs =
    let at = position_or_len p xs in
    chosen (nat_lt at (length xs)) at (length xs) (λ e. let past = ltb-false at (length xs) e in let inside = place_inside p xs in omega (arith, past, inside))

-- what begins at the first element that equals a number
pub from_first : (m : ℕ) (xs : List ℕ) → position_or_len (λ b. b == m) xs < length xs
    → drop (position_or_len (λ b. b == m) xs) xs ≡ m ∷ after_first (λ b. b == m) xs
from_first m xs lt =
    let at = position_or_len (λ b. b == m) xs in
    let here : get_or xs at 0 ≡ m = eqb-true _ _ (passes_at_first (λ b. b == m) xs 0 lt) in
    drop-cons xs at 0 lt ∙ ap (λ x. x ∷ drop (suc at) xs) here ∙ ap (λ k. m ∷ drop k xs) (sym (add-one at))
