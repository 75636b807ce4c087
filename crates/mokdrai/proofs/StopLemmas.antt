-- What lists of listeners hold that are over others.
use Rattle.std.proofs.Common.{◌≡◌, List, [], ◌∷◌, Option, Some, None, Result, Ok, Err, refl, sym, subst, map}
use Rattle.std.specs.List.{AllByRecursion}
use Rattle.std.specs.Prelude.{IfOk, IfSome, IsSome}
use Rattle.adapters.specs.Stopping.{AreOver}

held_is : {N : Type 0} (P : N → Type 0) (held : Option N) (one : N) → IfSome held (λ own. own ≡ one) → P one → IfSome held P
held_is P None one is here = tt
held_is P (Some own) one is here = subst P (sym is) here

some_is : {N : Type 0} (held : Option N) (one : N) → held ≡ Some one → IsSome held
some_is held one is = rw is refl

-- what holds of each of those, holds of what is over them
pub over_each : {S N : Type 0} (listener : S → Option N) (P : N → Type 0) (all : List S) (those : List N)
    → AreOver listener all those → AllByRecursion P those → AllByRecursion (λ one. IfSome (listener one) P) all
over_each listener P [] those over each = tt
over_each listener P (x ∷ xs) [] over each = absurd over
over_each listener P (x ∷ xs) (y ∷ ys) over each = (held_is P (listener x) y over.0 each.0, over_each listener P xs ys over.1 each.1)

-- each that holds one of those, holds one
pub held_each : {S N : Type 0} (listener : S → Option N) (all : List S) (those : List N)
    → map listener all ≡ map Some those → AllByRecursion (λ one. IsSome (listener one)) all
held_each listener [] those held = tt
held_each listener (x ∷ xs) [] held = absurd (cc held)
held_each listener (x ∷ xs) (y ∷ ys) held = (some_is (listener x) y (cc held), held_each listener xs ys (cc held))

-- the same of a result
pub over_each_ok : {V S N E : Type 0} (items : V → List S) (listener : S → Option N) (P : N → Type 0) (r : Result V E) (those : List N)
    → IfOk r (λ all. AreOver listener (items all) those) → AllByRecursion P those → IfOk r (λ all. AllByRecursion (λ one. IfSome (listener one) P) (items all))
over_each_ok items listener P (Ok all) those over each = over_each listener P (items all) those over each
over_each_ok items listener P (Err e) those over each = tt

pub held_each_ok : {V S N E : Type 0} (items : V → List S) (listener : S → Option N) (r : Result V E) (those : List N)
    → IfOk r (λ all. map listener (items all) ≡ map Some those) → IfOk r (λ all. AllByRecursion (λ one. IsSome (listener one)) (items all))
held_each_ok items listener (Ok all) those held = held_each listener (items all) those held
held_each_ok items listener (Err e) those held = tt

-- what each of these has, each of those says of itself
pub all_weaker : {X : Type 0} (P Q : X → Type 0) → ((x : X) → P x → Q x) → (xs : List X) → AllByRecursion P xs → AllByRecursion Q xs
all_weaker P Q weaker [] each = tt
all_weaker P Q weaker (x ∷ xs) each = (weaker x each.0, all_weaker P Q weaker xs each.1)

-- what holds of all
pub all_told : {X : Type 0} (P : X → Type 0) → ((x : X) → P x) → (xs : List X) → AllByRecursion P xs
all_told P holds [] = tt
all_told P holds (x ∷ xs) = (holds x, all_told P holds xs)
