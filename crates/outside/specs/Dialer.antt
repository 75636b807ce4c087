-- What a dialer tells.
use Rattle.std.specs.Prelude.{◌≡◌, ℕ, List, [], ◌∷◌, ◌++◌, Option, None, Some, Result, Ok, Err, ⊤}
use Rattle.outside.specs.declared.dialer.Exchange.{Exchange}
use Rattle.outside.specs.declared.faults.OutFault.{OutFault}
use Rattle.outside.specs.declared.faults.OutFault.TheVariants.{Failed, Memory}

-- The list grew by one exchange: a lost answer stands there as none, and want of memory adds nothing.
-- A dialer that doesn't tell its exchanges never tells them later.
abbrev pub Exchanges : Option (List Exchange) → Option (List Exchange) → List ℕ → Result (List ℕ) OutFault → Type 0
Exchanges None None request result = ⊤
Exchanges None (Some new) request result = ⊥
Exchanges (Some old) None request result = ⊥
Exchanges (Some old) (Some new) request (Ok reply) = new ≡ old ++ record { request = request; reply = Some reply } ∷ []
Exchanges (Some old) (Some new) request (Err Failed) = new ≡ old ++ record { request = request; reply = None } ∷ []
Exchanges (Some old) (Some new) request (Err Memory) = new ≡ old
