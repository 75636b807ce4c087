-- The sessions of a schedule and their clients.
use Rattle.std.proofs.Common.{◌≡◌, ℕ, zero, suc, ◌+◌, List, [], ◌∷◌, Some, refl, sym, ap, ◌∙◌, arith}
use Rattle.std.specs.List.{slice_get}
use Rattle.wopi_world.specs.Requests.{Client}
use Rattle.schedule_text.specs.declared.schedule.SessionLine.{SessionLine}
use Rattle.replay_cmd.specs.Runs.{client_of, clients_from}

-- the session of a client
pub session_at : (sessions : List SessionLine) (n s : ℕ) (client : Client) → slice_get (clients_from n sessions) s ≡ Some client
    → (session : SessionLine) × (slice_get sessions s ≡ Some session) × (client ≡ client_of (n + s) session)
session_at [] n s client e = cc
session_at (first ∷ sessions) n zero client e =
    let one : client_of n first ≡ client = cc in
    let number : n ≡ n + zero = omega arith in
    (first, refl, sym one ∙ ap (λ (m : ℕ). client_of m first) number)
session_at (first ∷ sessions) n (suc s) client e =
    let rest = session_at sessions (n + 1) s client e in
    let number : (n + 1) + s ≡ n + suc s = omega arith in
    (rest.0, rest.1, rest.2 ∙ ap (λ (m : ℕ). client_of m rest.0) number)
