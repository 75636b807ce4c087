-- A link that was turned away, and lists of listeners that grow.
use Rattle.std.proofs.Common.{◌≡◌, ◌≢◌, ℕ, List, [], ◌∷◌, ◌++◌, Option, Some, None, Ok, refl, map, inr}
use Rattle.std.proofs.lemmas.List.{map-append}
use Rattle.std.specs.List.{AllByRecursion}
use Rattle.std.specs.Prelude.{IfSome}
use Rattle.outside.specs.declared.listener.Accepted.TheVariants.{Link, Closed}
use Rattle.adapters.specs.Stopping.{Answers, AreOver, PassesOn, TakesBack}

module _ {N L P : Type 0} (links_left finished_links : N → Option (List L)) (accepted finished faults : N → ℕ) where
  -- it was handed back, and that ends the listener
  pub turned_away : (path : Option P) (old between new : N) (link : L) → path ≢ None
      → Answers links_left finished_links accepted finished faults old between (Ok (Link link))
      → TakesBack links_left finished_links accepted finished faults between new link
      → PassesOn links_left finished_links accepted finished faults path old (Ok Closed)
  turned_away path old between new link told gave got =
      (new, inr (told, refl, record { link = link; between = between; gave = gave; got = got }))

-- one more over one more
pub AreOver-more : {S N : Type 0} (listener : S → Option N) (all : List S) (one : S) (those : List N) (own : N)
    → AreOver listener all those → IfSome (listener one) (λ held. held ≡ own) → AreOver listener (all ++ one ∷ []) (those ++ own ∷ [])
AreOver-more listener [] one [] own over is = (is, tt)
AreOver-more listener [] one (x ∷ xs) own over is = absurd over
AreOver-more listener (x ∷ xs) one [] own over is = absurd over
AreOver-more listener (x ∷ xs) one (y ∷ ys) own over is = (over.0, AreOver-more listener xs one ys own over.1 is)

-- one more that holds its own
pub held-more : {S N : Type 0} (listener : S → Option N) (all : List S) (one : S) (those : List N) (own : N)
    → map listener all ≡ map Some those → listener one ≡ Some own → map listener (all ++ one ∷ []) ≡ map Some (those ++ own ∷ [])
held-more listener all one those own held is = rw (map-append listener all (one ∷ []), held, is, map-append Some those (own ∷ [])) refl

-- what holds of each, holds with one more
pub AllByRecursion-more : {X : Type 0} (P : X → Type 0) (xs : List X) (x : X) → AllByRecursion P xs → P x → AllByRecursion P (xs ++ x ∷ [])
AllByRecursion-more P [] x all here = (here, tt)
AllByRecursion-more P (y ∷ ys) x all here = (all.0, AllByRecursion-more P ys x all.1 here)
