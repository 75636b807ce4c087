-- What a session did is shown as the machine's turn.
use Rattle.std.proofs.Common.{◌≡◌, ℕ, ◌+◌, List, ◌∷◌, length, codes, decimal, Some, refl, sym, ap, ◌∙◌, subst}
use Rattle.std.specs.List.{slice_get}
use Rattle.std.proofs.lemmas.List.{length-map}
use Rattle.save_session.specs.declared.input.Input.{Input}
use Rattle.save_session.specs.declared.state.State.{State}
use Rattle.save_session.specs.declared.state.Effect.{Effect}
use Rattle.save_session.specs.declared.state.Effect.TheVariants.{Sends, Tells, Ignores}
use Rattle.save_session.specs.declared.state.SessionOp.{SessionOp}
use Rattle.save_session.specs.declared.output.Outcome.{Outcome}
use Rattle.save_session.specs.declared.state.Turn.{Turn}
use Rattle.save_session.specs.Session.{stepped, output_of, op_of, body_of}
use Rattle.wopi_world.specs.Requests.{Client}
use Rattle.wopi_world.specs.World.{World}
use Rattle.replay_cmd.specs.declared.member.Request.{Request}
use Rattle.replay_cmd.specs.declared.member.Member.{Member}
use Rattle.wopi_world.proofs.Seeing.{IsSameTurn, IsSameEffect}
use Rattle.replay_cmd.specs.Members.{StepsTo, StepsIn, IsMember, ShowsSessions, request_kept}
use Rattle.replay_cmd.specs.Words.{operation_shown, outcome_shown, output_shown}
use Rattle.replay_cmd.specs.Trace.{turn_shown, client_shown}
use Rattle.access_tokens.specs.declared.keys.Keys.{Keys}

-- of a session that took an input
pub steps_shown : (old new : Member) (requests requests' : List Request) (s : ℕ) (given : Input) (words : List (List ℕ)) → StepsTo old new requests requests' s given words
    → words ≡ turn_shown old.session.nonce s (length requests) (stepped old.session.nonce old.session.state given)
steps_shown old new requests requests' s given words h =
    let nonce = old.session.nonce in
    let turn = stepped nonce old.session.state given in
    h.shown ∙ ap (λ (st : State). output_shown s (length requests) (body_of st) (output_of nonce turn.effect)) h.state

same_effect : (nonce : List ℕ) (s count : ℕ) (body : List ℕ) (one other : Effect) → IsSameEffect one other
    → output_shown s count body (output_of nonce one) ≡ output_shown s count body (output_of nonce other)
same_effect nonce s count body (Sends asked) (Sends other) h =
    ap (λ (o : SessionOp). codes "send" ∷ decimal (count + 1) ∷ operation_shown (op_of nonce o) body) h
same_effect nonce s count body (Tells told) (Tells other) h = ap (λ (o : Outcome). codes "tell" ∷ decimal (s + 1) ∷ outcome_shown o) h
same_effect nonce s count body (Ignores given) (Ignores other) h = refl
same_effect nonce s count body (Sends asked) (Tells other) h = absurd h
same_effect nonce s count body (Sends asked) (Ignores other) h = absurd h
same_effect nonce s count body (Tells told) (Sends other) h = absurd h
same_effect nonce s count body (Tells told) (Ignores other) h = absurd h
same_effect nonce s count body (Ignores given) (Sends other) h = absurd h
same_effect nonce s count body (Ignores given) (Tells other) h = absurd h

-- turns in which nothing differs but what is handed back
pub same_shown : (nonce : List ℕ) (s count : ℕ) (one other : Turn) → IsSameTurn one other → turn_shown nonce s count one ≡ turn_shown nonce s count other
same_shown nonce s count one other h =
    ap (λ (st : State). output_shown s count (body_of st) (output_of nonce one.effect)) h.session
    ∙ same_effect nonce s count (body_of other.session) one.effect other.effect h.effect

-- of a session of the world, whose member this is
pub client_steps : (keys : Keys) (clients : List Client) (members members' : List Member) (requests requests' : List Request) (world : World)
    → ShowsSessions keys clients members requests world → (s : ℕ) (client : Client) → slice_get clients s ≡ Some client
    → (given given' : Input) (words : List (List ℕ)) → StepsIn members members' requests requests' s given words
    → IsSameTurn (stepped client.nonce (world.members s).session given) (stepped client.nonce (world.members s).session given')
    → words ≡ client_shown world s given' (Some client)
client_steps keys clients members members' requests requests' world shows s client there given given' words in_place same =
    let place = shows.each s client there in
    let found : Some in_place.old ≡ Some place.0 = sym in_place.at ∙ place.1 in
    let one : in_place.old ≡ place.0 = cc in
    let is : IsMember keys client in_place.old (world.members s) = subst (λ (m : Member). IsMember keys client m (world.members s)) (sym one) place.2 in
    let count : length requests ≡ length world.requests = ap length shows.sent ∙ length-map world.requests (request_kept clients) in
    steps_shown in_place.old in_place.new requests requests' s given words in_place.steps
    ∙ ap (λ (n : List ℕ). turn_shown n s (length requests) (stepped n in_place.old.session.state given)) is.nonce
    ∙ ap (λ (st : State). turn_shown client.nonce s (length requests) (stepped client.nonce st given)) is.state
    ∙ ap (λ (n : ℕ). turn_shown client.nonce s n (stepped client.nonce (world.members s).session given)) count
    ∙ same_shown client.nonce s (length world.requests) _ _ same
