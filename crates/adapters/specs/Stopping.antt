-- What a listener that can be stopped tells.
use Rattle.std.specs.Prelude.{◌≡◌, ◌≢◌, ◌≤◌, ◌⊎◌, ⊤, ℕ, ◌+◌, List, [], ◌∷◌, Option, None, IfSome, OnOk, IsErrOf, Result, Ok, Err}
use Rattle.outside.specs.declared.faults.OutFault.{OutFault}
use Rattle.outside.specs.declared.faults.OutFault.TheVariants.{Failed}
use Rattle.outside.specs.declared.listener.Accepted.{Accepted}
use Rattle.outside.specs.declared.listener.Accepted.TheVariants.{Link, Closed}
use Rattle.outside.specs.Faults.{Rose}
use Rattle.outside.specs.Listener.{Accepts, AcceptsNumber, Finishes, KeepsLinks}

abbrev pub IsLink : {L : Type 0} → Result (Accepted L) OutFault → Type 0
IsLink (Ok (Link link)) = ⊤
IsLink (Ok Closed) = ⊥
IsLink (Err fault) = ⊥

module _ {N L : Type 0} (links_left finished_links : N → Option (List L)) (accepted finished faults : N → ℕ) where
  -- the listener was asked for a link, and answered so
  pub record Answers (old new : N) (answer : Result (Accepted L) OutFault) : Type 0 where
    pub link : Accepts (links_left old) (links_left new) answer
    pub number : AcceptsNumber (accepted old) (accepted new) answer
    pub finished_are : finished new ≡ finished old
    pub finished_links_are : KeepsLinks (finished_links old) (finished_links new)
    pub never_falls : faults old ≤ faults new
    pub failed : IsErrOf answer Failed → Rose (faults old) (faults new)
    pub fine : OnOk answer (faults new ≡ faults old)

  -- the link was handed back to the listener
  pub record TakesBack (old new : N) (link : L) : Type 0 where
    pub finished_are : finished new ≡ finished old + 1
    pub links : Finishes (finished_links old) (finished_links new) link
    pub accepted_are : accepted new ≡ accepted old
    pub left : KeepsLinks (links_left old) (links_left new)
    pub faults_are : faults new ≡ faults old

  -- the listener gave a link, and it was handed back as it came
  pub record TurnsAway (old new : N) : Type 0 where
    pub link : L
    pub between : N
    pub gave : Answers old between (Ok (Link link))
    pub got : TakesBack between new link

  -- The result is what the listener answered, or, where there is a path, the end after a link that was turned away. Want of
  -- memory says nothing of the listener, so it may also be one's own.
  abbrev pub PassesOn : {P : Type 0} → Option P → N → Result (Accepted L) OutFault → Type 0
  PassesOn path old result = (new : N) × (Answers old new result ⊎ ((path ≢ None) × (result ≡ Ok Closed) × TurnsAway old new))

module _ {N L : Type 0} (links_left finished_links : N → Option (List L)) (accepted finished faults : N → ℕ) where
  -- the result is what the listener answered, or, where something is shared, the end in place of a fault
  abbrev pub PassesOnShared : {S : Type 0} → Option S → N → N → Result (Accepted L) OutFault → Type 0
  PassesOnShared shared old new result =
      Answers links_left finished_links accepted finished faults old new result
      ⊎ ((shared ≢ None) × (result ≡ Ok Closed) × (fault : OutFault) × Answers links_left finished_links accepted finished faults old new (Err fault))

-- these are over those, in the same order, but for those that are closed
abbrev pub AreOver : {S N : Type 0} → (S → Option N) → List S → List N → Type 0
AreOver listener [] [] = ⊤
AreOver listener [] (one ∷ others) = ⊥
AreOver listener (all ∷ rest) [] = ⊥
AreOver listener (first ∷ rest) (one ∷ others) = IfSome (listener first) (λ own. own ≡ one) × AreOver listener rest others
