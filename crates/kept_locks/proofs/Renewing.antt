-- A place that is changed where it stands.
use Rattle.std.proofs.Common.{◌≡◌, ◌≢◌, ◌<◌, ℕ, zero, suc, List, [], ◌∷◌, get_or, length, Option, Some, refl, sym, ap, arith}
use Rattle.std.specs.Prelude.{slice_get, slice_set, option_map}
use Rattle.std.specs.Option.{option_and_then}
use Rattle.expiry_queue.specs.Chains.{Chains}
use Rattle.kept_locks.specs.declared.places.Place.{Place}
use Rattle.kept_locks.specs.Locks.{Standing}
use Rattle.kept_locks.specs.Ties.{Puts, lock_of, renewed, renewed_at, standings}
use Rattle.kept_locks.proofs.Setting.{shown}

others_stay : (places : List Place) (number : ℕ) (place : Place) (other : ℕ) → other ≢ number → slice_get (slice_set places number place) other ≡ slice_get places other
others_stay [] number place other differs = refl
others_stay (first ∷ rest) zero place zero differs = absurd (differs refl)
others_stay (first ∷ rest) zero place (suc other) differs = refl
others_stay (first ∷ rest) (suc number) place zero differs = refl
others_stay (first ∷ rest) (suc number) place (suc other) differs = others_stay rest number place other (λ e. differs (ap suc e))

-- one place of the list became another one
pub puts_set : (places : List Place) (number : ℕ) (place : Place) → number < length places → Puts places (slice_set places number place) number place
puts_set [] number place below = absurd (omega (arith, below))
puts_set (first ∷ rest) zero place below = record { here = refl; others = others_stay (first ∷ rest) zero place; long = refl }
puts_set (first ∷ rest) (suc number) place below =
    let behind = puts_set rest number place (omega (arith, below)) in
    record { here = behind.here; others = others_stay (first ∷ rest) (suc number) place; long = ap suc behind.long }

pub place_found : (places : List Place) (number : ℕ) (place : Place) → number < length places → place ≡ get_or places number place → slice_get places number ≡ Some place
place_found [] number place below is = absurd (omega (arith, below))
place_found (first ∷ rest) zero place below is = ap Some (sym is)
place_found (first ∷ rest) (suc number) place below is = place_found rest number place (omega (arith, below)) is

-- the lock that goes on, of the file and of its place
pub renewed_is : (since until number : ℕ) (chains : Chains) (places : List Place) (place : Place) → slice_get places number ≡ Some place
    → renewed_at since until number (standings chains places) ≡ option_map (renewed since until) (option_map lock_of place.held)
renewed_is since until number chains places place at =
    ap (λ (o : Option Standing). option_and_then (λ file. option_map (renewed since until) file.lock) o) (shown chains places number place at)
