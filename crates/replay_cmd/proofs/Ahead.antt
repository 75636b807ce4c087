-- What a restart at a moment comes after, in the world to which the events before it lead.
use Rattle.std.proofs.Common.{◌≡◌, ◌==◌, ◌<◌, ℕ, cond, List, [], ◌∷◌, length, Option, None, Some, refl, sym, ap, ◌∙◌, subst, inl, inr, arith}
use Rattle.std.specs.Prelude.{IfSome}
use Rattle.std.proofs.lemmas.Bool.{cond_both}
use Rattle.std.specs.List.{AllByRecursion, slice_get}
use Rattle.wopi_model.specs.declared.calls.Call.{Call}
use Rattle.wopi_model.specs.declared.calls.Ruling.{Ruling}
use Rattle.wopi_model.specs.Step.{bare}
use Rattle.wopi_model.specs.Shard.{Tick, Step}
use Rattle.wopi_headers.specs.declared.ask.Op.{Op}
use Rattle.wopi_headers.specs.declared.ask.Op.TheVariants as op
use Rattle.wopi_headers.specs.declared.ask.Target.{Target}
use Rattle.wopi_headers.specs.declared.ask.Target.TheVariants.{Suggested, Relative}
use Rattle.wopi_acts.specs.Answers.{ruling_told}
use Rattle.save_session.specs.declared.input.Input.{Input}
use Rattle.save_session.specs.declared.input.Input.TheVariants as input
use Rattle.save_session.specs.declared.state.Effect.{Effect}
use Rattle.save_session.specs.declared.state.Effect.TheVariants.{Sends, Tells, Ignores}
use Rattle.save_session.specs.declared.state.State.{State}
use Rattle.save_session.specs.Session.{stepped}
use Rattle.wopi_world.specs.History.{Ran, Restarted}
use Rattle.wopi_world.specs.Requests.{Client, call_of, input_of}
use Rattle.wopi_world.specs.World.{Setting, World, Request, Reply, comes, enters, entry_of, delivered, delivered_by, asks_one, tries, foreign, takes, turns, for_client, is_asked, is_taken, answers, answers_place, answers_sender, ruling_in, first_world, next_first}
use Rattle.wopi_world.specs.Valid.{IsIssuedBefore, MayRestart}
use Rattle.wopi_world.proofs.Lists.{get_back}
use Rattle.schedule_text.specs.declared.schedule.SessionLine.{SessionLine}
use Rattle.schedule_text.specs.declared.schedule.ForeignAsk.{ForeignAsk}
use Rattle.schedule_text.specs.declared.schedule.EventLine.{EventLine}
use Rattle.schedule_text.specs.declared.schedule.EventLine.TheVariants as line
use Rattle.schedule_text.specs.Schedules.{IsBefore}
use Rattle.replay_cmd.specs.Runs.{clients_from, foreign_call, creates_of, asked_by, place_of, wish_of, event_in}
use Rattle.schedule_text.proofs.Growing.{all_more}
use Rattle.replay_cmd.proofs.Whose.{session_at}

-- the token of the session at that place was issued before that moment
abbrev IsIssued : ℕ → Setting → ℕ → Type 0
IsIssued later setting s = (client : Client) → slice_get setting.clients s ≡ Some client → client.token.issued < later

-- the world is before that moment
pub record IsAhead (later : ℕ) (setting : Setting) (world : World) : Type 0 where
  now : world.shard.now < later
  opened : world.shard.opened < later
  sent : (place : ℕ) (request : Request) → slice_get world.requests place ≡ Some request → IsIssued later setting request.sender
  used : AllByRecursion (IsIssuedBefore later) world.history

module _ (later : ℕ) (setting : Setting) where
  abbrev pub Ahead : World → Type 0
  Ahead = IsAhead later setting

  ahead_enters : (world : World) (call : Call) (moment : ℕ) → moment < later → call.token.issued < later → Ahead world → Ahead (enters world call moment)
  ahead_enters world call moment soon issued h =
      let now = h.now in
      record {
        now = omega (arith, now, soon);
        opened = h.opened;
        sent = h.sent;
        used = all_more (IsIssuedBefore later) world.history (Ran (Step (entry_of world call moment))) h.used (λ ok. issued);
      }

  -- a reply changes nothing of this
  ahead_same : (world after : World) → after.shard ≡ world.shard → after.history ≡ world.history → after.requests ≡ world.requests → Ahead world → Ahead after
  ahead_same world after shard history requests h =
      record {
        now = subst (λ s. s.now < later) (sym shard) h.now;
        opened = subst (λ s. s.opened < later) (sym shard) h.opened;
        sent = λ place request at. h.sent place request (sym (ap (λ l. slice_get l place) requests) ∙ at);
        used = subst (AllByRecursion (IsIssuedBefore later)) (sym history) h.used;
      }

  ahead_turned : (world : World) (s : ℕ) (session : State) (effect : Effect) → IsIssued later setting s → Ahead world → Ahead (takes world s (world.members s) session effect)
  ahead_turned world s session (Sends asked) issued h =
      record {
        now = h.now;
        opened = h.opened;
        sent = λ place request at. elim (get_back world.requests _ place request at) [
          | inl old ↦ h.sent place request old
          | inr new ↦ subst (λ (r : Request). IsIssued later setting r.sender) new.1 issued
        ];
        used = h.used;
      }
  ahead_turned world s session (Tells outcome) issued h = record { now = h.now; opened = h.opened; sent = h.sent; used = h.used }
  ahead_turned world s session (Ignores given) issued h = h

  ahead_client : (world : World) (s : ℕ) (given : Input) (found : Option Client) → IsIssued later setting s → Ahead world
      → Ahead (for_client world found (λ client. turns world s (stepped client.nonce (world.members s).session given)))
  ahead_client world s given None issued h = h
  ahead_client world s given (Some client) issued h =
      let turn = stepped client.nonce (world.members s).session given in
      ahead_turned world s turn.session turn.effect issued h

  ahead_delivered : (world : World) (place moment : ℕ) → moment < later → (found : Option Request) → slice_get world.requests place ≡ found → Ahead world
      → Ahead (delivered setting world place moment found)
  ahead_delivered world place moment soon None at h = h
  ahead_delivered world place moment soon (Some request) at h = by_client (slice_get setting.clients request.sender) refl
    where
      by_client : (found : Option Client) → slice_get setting.clients request.sender ≡ found → Ahead (delivered_by world place moment request.op found)
      by_client None e = h
      by_client (Some client) e =
          let call = call_of client request.op in
          ahead_same (enters world call moment) (delivered_by world place moment request.op (Some client)) refl refl refl
          (ahead_enters world call moment soon (h.sent place request at client e) h)

  ahead_sender : (world : World) (place : ℕ) (ruling : Ruling) (found : Option Request) → slice_get world.requests place ≡ found → Ahead world
      → Ahead (answers_sender setting world place ruling found)
  ahead_sender world place ruling None at h = h
  ahead_sender world place ruling (Some request) at h = by_client (slice_get setting.clients request.sender)
    where
      answered : Client → World
      answered client = turns world request.sender (stepped client.nonce (world.members request.sender).session (input.Reply (ruling_told ruling)))

      by_client : (found : Option Client)
          → Ahead (for_client world found (λ client. cond (is_asked (world.members request.sender).asked place) (answered client) world))
      by_client None = h
      by_client (Some client) =
          let turn = stepped client.nonce (world.members request.sender).session (input.Reply (ruling_told ruling)) in
          cond_both (is_asked (world.members request.sender).asked place) (answered client) world Ahead
          (λ e. ahead_turned world request.sender turn.session turn.effect (h.sent place request at) h) (λ e. h)

  ahead_place : (world : World) (ruling : Ruling) (place : Option ℕ) → Ahead world → Ahead (answers_place setting world ruling place)
  ahead_place world ruling None h = h
  ahead_place world ruling (Some place) h = ahead_sender world place ruling (slice_get world.requests place) refl h

  ahead_answers : (world : World) (found : Option Reply) → Ahead world → Ahead (answers setting world found)
  ahead_answers world None h = h
  ahead_answers world (Some reply) h = ahead_place world reply.ruling reply.request h

  -- ---- somebody else, whose token was issued when the host opened

  ahead_one : (world : World) (call : Call) (moment before : ℕ) → moment < later → call.token.issued < later → Ahead world → Ahead (asks_one world call moment before)
  ahead_one world call moment before soon issued h =
      ahead_same (enters world call moment) (asks_one world call moment before) refl refl refl (ahead_enters world call moment soon issued h)

  ahead_tries : (world : World) (calls : List Call) (moment before : ℕ) (last : Ruling) → moment < later → AllByRecursion (λ (call : Call). call.token.issued < later) calls
      → Ahead world → Ahead (tries world calls moment before last)
  ahead_tries world [] moment before last soon issued h = ahead_same world (tries world [] moment before last) refl refl refl h
  ahead_tries world (call ∷ calls) moment before last soon issued h =
      let ruling = ruling_in world call moment in
      cond_both (is_taken ruling.reason) (tries (enters world call moment) calls moment before ruling) (asks_one world call moment before) Ahead
      (λ e. ahead_tries (enters world call moment) calls moment before ruling soon issued.1 (ahead_enters world call moment soon issued.0 h))
      (λ e. ahead_one world call moment before soon issued.0 h)

  creates_issued : (opened : ℕ) (ask : ForeignAsk) (target : Target) (found : Option (List ℕ)) → opened < later
      → AllByRecursion (λ (call : Call). call.token.issued < later) (creates_of opened ask target found)
  creates_issued opened ask (Suggested text) found issued = tt
  creates_issued opened ask (Relative name overwrite) None issued = tt
  creates_issued opened ask (Relative name overwrite) (Some target) issued = (issued, tt)

  ahead_foreign : (world : World) (ask : ForeignAsk) (moment before : ℕ) (asked : Op) → moment < later → Ahead world
      → Ahead (foreign world (asked_by world.shard.opened ask asked) moment before)
  ahead_foreign world ask moment before asked soon h = by_op asked
    where
      call : Call
      call = foreign_call world.shard.opened ask

      one : Ahead (asks_one world call moment before)
      one = ahead_one world call moment before soon h.opened h

      copy : (target : Target) → Ahead (foreign world (asked_by world.shard.opened ask (op.PutRelative target)) moment before)
      copy target =
          let creates = creates_of world.shard.opened ask target ask.target in
          cond_both ((ruling_in world call moment).status == 200) (tries (enters world call moment) creates moment before (bare 400)) (asks_one world call moment before) Ahead
          (λ e. ahead_tries (enters world call moment) creates moment before (bare 400) soon (creates_issued world.shard.opened ask target ask.target h.opened)
          (ahead_enters world call moment soon h.opened h))
          (λ e. one)

      by_op : (asked : Op) → Ahead (foreign world (asked_by world.shard.opened ask asked) moment before)
      by_op op.Info = one
      by_op (op.Get most) = one
      by_op (op.Put lock) = one
      by_op (op.Lock id) = one
      by_op op.GetLock = one
      by_op (op.Refresh id) = one
      by_op (op.Unlock id) = one
      by_op (op.Relock old id) = one
      by_op (op.PutRelative target) = copy target
      by_op op.Delete = one

  -- ---- one event more

  module _ (sessions : List SessionLine) (whose : setting.clients ≡ clients_from 1 sessions) where
    issued_at : (s : ℕ) → IfSome (slice_get sessions s) (λ session. session.issued < later) → IsIssued later setting s
    issued_at s before client at =
        let session = session_at sessions 1 s client (sym (ap (λ (l : List Client). slice_get l s) whose) ∙ at) in
        let issued : session.0.issued < later = subst (λ (found : Option SessionLine). IfSome found (λ one. one.issued < later)) session.1 before in
        subst (λ (c : Client). c.token.issued < later) (sym session.2) issued

    pub ahead_comes : (world : World) (event : EventLine) → IsBefore sessions later event → Ahead world → Ahead (comes setting world (event_in world event))
    ahead_comes world (line.Asks s wish) before h = ahead_client world s (input_of (wish_of wish)) (slice_get setting.clients s) (issued_at s before) h
    ahead_comes world (line.Deliver request moment) before h =
        let place : ℕ = place_of request (length world.requests) in
        ahead_delivered world place moment before (slice_get world.requests place) refl h
    ahead_comes world (line.Answer reply) before h = ahead_answers world (slice_get world.replies (place_of reply (length world.replies))) h
    ahead_comes world (line.Lose s) before h = ahead_client world s input.NoAnswer (slice_get setting.clients s) (issued_at s before) h
    ahead_comes world (line.Ticks moment) before h =
        let now = h.now in
        record {
          now = omega (arith, now, before);
          opened = h.opened;
          sent = h.sent;
          used = all_more (IsIssuedBefore later) world.history (Ran (Tick moment)) h.used tt;
        }
    ahead_comes world (line.Foreign moment ask) before h = ahead_foreign world ask moment (length world.history) ask.op before h
    ahead_comes world (line.Restarts moment) before h =
        record {
          now = before;
          opened = before;
          sent = h.sent;
          used = all_more (IsIssuedBefore later) world.history (Restarted moment (next_first setting world)) h.used tt;
        }

  pub ahead_first : setting.opened < later → Ahead (first_world setting)
  ahead_first opened = record { now = opened; opened = opened; sent = λ place request at. cc; used = tt }

  -- so the host may restart then
  pub may_restart : (world : World) → Ahead world → MayRestart world later
  may_restart world h = (h.now, h.used)
