-- What else holds of one session: how long its ids are kept, and that its accepted requests stand in one run of the host.
use Rattle.std.specs.Prelude.{◌≡◌, ◌⊎◌, ⊤, ℕ, ◌<◌, ◌≤◌, List, ◌∷◌, ◌++◌}
use Rattle.std.specs.List.{AllByRecursion}
use Rattle.wopi_model.specs.declared.locks.Lock.{Lock}
use Rattle.wopi_model.specs.Shard.{Shard, Tick, Step}
use Rattle.wopi_model.specs.Safety.{HasEnded}
use Rattle.save_session.specs.LockIds.{lock_id}
use Rattle.wopi_world.specs.History.{Item, Ran, Restarted, after}
use Rattle.wopi_world.specs.Requests.{Client}
use Rattle.wopi_world.specs.Safe.{IsHeldUnder}

-- the session's token was issued before the host opened, so that nothing is accepted under it
abbrev pub IsDead : Client → Shard → Type 0
IsDead client shard = client.token.issued < shard.opened

-- How long a session's ids are kept; start is the shard at its opening.
pub record KeepsIds (client : Client) (start : Shard) (history : List Item) : Type 0 where
  -- the lock of a held id will leave it spent for as long as the token lives
  pub held : (number : ℕ) (lock : Lock) → IsHeldUnder client number lock (after start history) → client.token.expires ≤ lock.until
  -- an id that was held is held still, or spent for as long as the token lives, or the token is dead
  pub ended : (first last : List Item) (number : ℕ) (lock : Lock) → first ++ last ≡ history → IsHeldUnder client number lock (after start first) →
      ((other : Lock) × IsHeldUnder client number other (after start history))
      ⊎ (HasEnded client.token.file (lock_id client.nonce number) client.token.expires (after start history) ⊎ IsDead client (after start history))

-- the item accepts a request under the session's token
abbrev pub IsUse : Client → Item → Type 0
IsUse client (Ran (Tick moment)) = ⊥
IsUse client (Ran (Step entry)) = (entry.call.token ≡ client.token) × (entry.ruling.status ≡ 200)
IsUse client (Restarted moment first) = ⊥

abbrev pub IsNoRestart : Item → Type 0
IsNoRestart (Ran item) = ⊤
IsNoRestart (Restarted moment first) = ⊥

-- all accepted requests of the session stand between the same two restarts
abbrev pub StandsInOneRun : Client → List Item → Type 0
StandsInOneRun client history =
    (first middle last : List Item) (p q : Item) → first ++ (p ∷ (middle ++ q ∷ last)) ≡ history → IsUse client p → IsUse client q →
    AllByRecursion IsNoRestart middle
