-- Lost answers. (Own: a request is sent three times at most.)
use Rattle.std.specs.Prelude.{ℕ, ◌≡◌, List, [], ◌∷◌, ◌++◌, None}
use Rattle.outside.specs.declared.dialer.Exchange.{Exchange}

-- a request whose answer was lost
abbrev pub lost_once : List ℕ → Exchange
lost_once request = record { request = request; reply = None }

-- the exchanges end with one request that was sent three times and got no answer
abbrev pub EndInThreeLosses : List Exchange → Type 0
EndInThreeLosses exchanges =
    (before : List Exchange) × (request : List ℕ) × (exchanges ≡ before ++ (lost_once request ∷ (lost_once request ∷ (lost_once request ∷ []))))
