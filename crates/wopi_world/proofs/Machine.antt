-- What a session knows: each of its turns sends and tells only what is so.
use Rattle.std.proofs.Common.{◌≡◌, ◌≢◌, ◌⊎◌, ℕ, ◌+◌, ◌<◌, ◌≤◌, ◌==◌, Bool, true, false, ◌||◌, ◌&&◌, cond, List, [], ◌∷◌, ◌++◌, length, Option, None, Some, is_none, nat_lt, unwrap_or, refl, sym, ap, subst, ◌∙◌, arith}
use Rattle.std.proofs.lemmas.Bool.{cond_both, eqb-true, or_parts, and_parts}
use Rattle.std.specs.List.{slice_get}
use Rattle.wopi_model.specs.declared.calls.Ruling.{Ruling}
use Rattle.wopi_model.specs.Shard.{Shard, Step, Entry}
use Rattle.wopi_headers.specs.declared.answer.Answer.{Answer}
use Rattle.wopi_acts.specs.Answers.{ruling_told}
use Rattle.wopi_acts.proofs.Telling.{told_body}
use Rattle.wopi_world.specs.History.{Item, Ran, Along}
use Rattle.save_session.specs.LockIds.{lock_id}
use Rattle.save_session.specs.declared.state.Phase.{Phase}
use Rattle.save_session.specs.declared.output.Outcome.{Outcome}
use Rattle.save_session.specs.declared.state.Waiting.{Waiting}
use Rattle.save_session.specs.declared.state.State.{State}
use Rattle.save_session.specs.declared.state.Effect.{Effect}
use Rattle.save_session.specs.declared.state.Phase.TheVariants.{New, Working, Ended}
use Rattle.save_session.specs.declared.output.Outcome.TheVariants.{Opened, Read as WasRead, Saved, Refreshed, Closed, Conflict as InConflict, LockLost, TooLarge, HostFault, TokenDead, Gone, NoAnswer}
use Rattle.save_session.specs.declared.state.Effect.TheVariants.{Sends, Tells, Ignores}
use Rattle.save_session.specs.declared.state.Goal.{Goal}
use Rattle.save_session.specs.declared.state.Goal.TheVariants.{Start as ForStart, Read as ForRead, Save as ForSave, Refresh as ForRefresh, Close as ForClose}
use Rattle.save_session.specs.declared.state.SessionOp.{SessionOp}
use Rattle.save_session.specs.declared.state.SessionOp.TheVariants as op_of
use Rattle.save_session.specs.declared.state.Turn.{Turn}
use Rattle.wopi_world.specs.Requests.{Client, Wish, Start, Read, Save, Refresh, Close, input_of, sent_with, Sent, Info, TakeLock, Get, Put, Relock, RefreshLock, Unlock}
use Rattle.save_session.specs.Session.{ignores, sends, tells, ends, has_next, relocks, puts, saves, settles_then, is_new_phase, is_new, is_working_phase, is_free, unanswered_while, unanswered, refused, was_read, continues_with, with_next, continues, names, says_spent, reply_to, answered_while, answered, stepped, contents_with, body_while, body_of}
use Rattle.save_session.specs.declared.input.Input.{Input}
use Rattle.save_session.specs.declared.input.Input.TheVariants as input
use Rattle.wopi_world.specs.World.{Told}
use Rattle.wopi_world.specs.Safe.{IsSave, IsNoSave}
use Rattle.wopi_world.proofs.Moving.{IsUnder, IsGone}
use Rattle.wopi_world.proofs.Positions.{Carries}
use Rattle.wopi_world.proofs.Lists.{get_left, get_new}

-- the session's id of that number was held at some time
abbrev pub WasHeldIn : Client → ℕ → Shard → Type 0
WasHeldIn client j shard = IsUnder client j shard ⊎ IsGone client j shard

abbrev pub HasOpened : List Told → Type 0
HasOpened told = (place : ℕ) × (one : Told) × (version : Option ℕ) × (slice_get told place ≡ Some one) × (one.outcome ≡ Opened version)

-- while no save was accepted, the contents are those under the session's lock, or its lock has ended
abbrev pub IsFresh : Client → Shard → Shard → List Item → List ℕ → Type 0
IsFresh client start shard history contents = Along (λ at item. IsNoSave client item) start history → Carries client contents shard

abbrev pub WasSaved : Client → List Item → ℕ → List ℕ → Option ℕ → Type 0
WasSaved client history number contents version =
    (at : ℕ) × (entry : Entry) × (slice_get history at ≡ Some (Ran (Step entry))) × IsSave client number contents (Ran (Step entry)) × (entry.ruling.version ≡ version)

-- what holds of each operation that was sent; number and used are the session's now
abbrev pub OpHolds : Client → Shard → List Told → ℕ → Bool → Sent → Type 0
OpHolds client shard told number used (Put j contents) = WasHeldIn client j shard × (j ≤ number) × (used ≡ false → j < number) × HasOpened told
OpHolds client shard told number used Get = WasHeldIn client 1 shard
OpHolds client shard told number used _ = Unit {0}

-- what holds of each reply to such an operation
abbrev pub ReplyHolds : Client → Shard → Shard → List Item → Sent → Ruling → Type 0
ReplyHolds client start shard history TakeLock reply = reply.status ≡ 200 → WasHeldIn client 1 shard
ReplyHolds client start shard history (Relock j) reply =
    (reply.status ≡ 200 → WasHeldIn client (j + 1) shard)
    × (reply.status ≡ 409 → names reply.lock (lock_id client.nonce (j + 1)) ≡ true → WasHeldIn client (j + 1) shard)
ReplyHolds client start shard history Get reply = reply.status ≡ 200 → IsFresh client start shard history (unwrap_or reply.contents [])
ReplyHolds client start shard history (Put j contents) reply = reply.status ≡ 200 → WasSaved client history j contents reply.version
ReplyHolds client start shard history _ reply = Unit {0}

-- what holds of each outcome that was told
abbrev pub OutcomeHolds : Client → Shard → Shard → List Item → ℕ → List ℕ → List ℕ → Outcome → Type 0
OutcomeHolds client start shard history number saved contents (Opened version) = IsFresh client start shard history contents
OutcomeHolds client start shard history number saved contents (Saved version) = WasSaved client history number saved version
OutcomeHolds client start shard history number saved contents _ = Unit {0}

abbrev pub PhaseHolds : Client → Shard → List Told → ℕ → Phase → Type 0
PhaseHolds client shard told number New = number ≡ 1
PhaseHolds client shard told number Working = WasHeldIn client 1 shard × WasHeldIn client number shard × HasOpened told
PhaseHolds client shard told number Ended = Unit {0}

abbrev pub WaitHolds : Phase → ℕ → Sent → Type 0
WaitHolds phase number Info = phase ≢ Ended
WaitHolds phase number TakeLock = phase ≢ Ended
WaitHolds phase number Get = phase ≢ Ended
WaitHolds phase number (Put j contents) = (phase ≡ Working) × (j ≡ number)
WaitHolds phase number (Relock j) = (phase ≡ Working) × (j ≡ number)
WaitHolds phase number _ = Unit {0}

abbrev pub told_with : List Told → List ℕ → State → Outcome → List Told
told_with told saved session outcome = told ++ record { number = session.number; outcome = outcome; contents = (unwrap_or session.contents []); saved = saved } ∷ []

pub record Knows (client : Client) (start shard : Shard) (history : List Item) (sent : Sent → Type 0) (told : List Told) (session : State) : Type 0 where
  pub ops : (op : Sent) → sent op → OpHolds client shard told session.number session.used op
  pub same : (j : ℕ) (c d : List ℕ) → sent (Put j c) → sent (Put j d) → c ≡ d
  pub phase : PhaseHolds client shard told session.number session.phase
  pub waits : (w : Waiting) → session.waits ≡ Some w → WaitHolds session.phase session.number (sent_with session.body w.op) × sent (sent_with session.body w.op)

-- a new Put has the contents of those that were sent under its id
abbrev pub IsSameAsSent : (Sent → Type 0) → Sent → Type 0
IsSameAsSent sent (Put j d) = (c : List ℕ) → sent (Put j c) → c ≡ d
IsSameAsSent sent _ = Unit {0}

pub record SendHolds (client : Client) (start shard : Shard) (history : List Item) (sent : Sent → Type 0) (told : List Told) (session : State) (op : Sent) : Type 0 where
  pub ops : (o : Sent) → sent o → OpHolds client shard told session.number session.used o
  pub new : OpHolds client shard told session.number session.used op
  pub same : IsSameAsSent sent op
  pub phase : PhaseHolds client shard told session.number session.phase
  pub waits : (w : Waiting) → session.waits ≡ Some w → sent_with session.body w.op ≡ op
  pub waits_for : WaitHolds session.phase session.number op

pub record TellHolds (client : Client) (start shard : Shard) (history : List Item) (sent : Sent → Type 0) (told : List Told) (saved : List ℕ) (session : State) (outcome : Outcome) : Type 0 where
  pub ops : (o : Sent) → sent o → OpHolds client shard (told_with told saved session outcome) session.number session.used o
  pub true_told : OutcomeHolds client start shard history session.number saved (unwrap_or session.contents []) outcome
  pub phase : PhaseHolds client shard (told_with told saved session outcome) session.number session.phase
  pub quiet : session.waits ≡ None

abbrev pub OutputHolds : Client → Shard → Shard → List Item → (Sent → Type 0) → List Told → List ℕ → State → Effect → Type 0
OutputHolds client start shard history sent told saved session (Sends op) = SendHolds client start shard history sent told session (sent_with session.body op)
OutputHolds client start shard history sent told saved session (Tells outcome) = TellHolds client start shard history sent told saved session outcome
OutputHolds client start shard history sent told saved session (Ignores input) = Unit {0}

abbrev pub TurnHolds : Client → Shard → Shard → List Item → (Sent → Type 0) → List Told → List ℕ → Turn → Type 0
TurnHolds client start shard history sent told saved turn = OutputHolds client start shard history sent told saved turn.session turn.effect

opened_more : (told : List Told) (one : Told) → HasOpened told → HasOpened (told ++ one ∷ [])
opened_more told one h = (h.0, h.1, h.2, get_left told (one ∷ []) h.0 h.1 h.3, h.4)

pub op_more : (client : Client) (shard : Shard) (told : List Told) (one : Told) (number : ℕ) (used : Bool) (op : Sent) →
    OpHolds client shard told number used op → OpHolds client shard (told ++ one ∷ []) number used op
op_more client shard told one number used Info h = h
op_more client shard told one number used TakeLock h = h
op_more client shard told one number used Get h = h
op_more client shard told one number used (Put j d) h = (h.0, h.1, h.2, opened_more told one h.3)
op_more client shard told one number used (Relock j) h = h
op_more client shard told one number used (RefreshLock j) h = h
op_more client shard told one number used (Unlock j) h = h

phase_more : (client : Client) (shard : Shard) (told : List Told) (one : Told) (number : ℕ) (phase : Phase) →
    PhaseHolds client shard told number phase → PhaseHolds client shard (told ++ one ∷ []) number phase
phase_more client shard told one number New h = h
phase_more client shard told one number Working h = (h.0, h.1, opened_more told one h.2)
phase_more client shard told one number Ended h = h

-- the operations that were sent, once the id of the number is used
op_used : (client : Client) (shard : Shard) (told : List Told) (number : ℕ) (used : Bool) (op : Sent) →
    OpHolds client shard told number used op → OpHolds client shard told number true op
op_used client shard told number used Info h = h
op_used client shard told number used TakeLock h = h
op_used client shard told number used Get h = h
op_used client shard told number used (Put j d) h = (h.0, h.1, (λ e. cc), h.3)
op_used client shard told number used (Relock j) h = h
op_used client shard told number used (RefreshLock j) h = h
op_used client shard told number used (Unlock j) h = h

-- and once the number is the next one
op_next : (client : Client) (shard : Shard) (told : List Told) (number : ℕ) (used again : Bool) (op : Sent) →
    OpHolds client shard told number used op → OpHolds client shard told (number + 1) again op
op_next client shard told number used again Info h = h
op_next client shard told number used again TakeLock h = h
op_next client shard told number used again Get h = h
op_next client shard told number used again (Put j d) h = let le = h.1 in (h.0, omega (arith, le), (λ e. omega (arith, le)), h.3)
op_next client shard told number used again (Relock j) h = h
op_next client shard told number used again (RefreshLock j) h = h
op_next client shard told number used again (Unlock j) h = h

module _ (client : Client) (start shard : Shard) (history : List Item) (sent : Sent → Type 0) (told : List Told) (saved : List ℕ) where
  abbrev Holds : Turn → Type 0
  Holds turn = TurnHolds client start shard history sent told saved turn

  abbrev Known : State → Type 0
  Known session = Knows client start shard history sent told session

  tells_holds : (session : State) → Known session → (outcome : Outcome) → OutcomeHolds client start shard history session.number saved (unwrap_or session.contents []) outcome → Holds (tells session outcome)
  tells_holds session k outcome so =
      record {
        ops = λ o s. op_more client shard told (record { number = session.number; outcome = outcome; contents = (unwrap_or session.contents []); saved = saved }) session.number session.used o (k.ops o s);
        true_told = so;
        phase = phase_more client shard told (record { number = session.number; outcome = outcome; contents = (unwrap_or session.contents []); saved = saved }) session.number session.phase k.phase;
        quiet = refl;
      }

  ends_holds : (session : State) → Known session → (outcome : Outcome) → OutcomeHolds client start shard history session.number saved (unwrap_or session.contents []) outcome → Holds (ends session outcome)
  ends_holds session k outcome so =
      record {
        ops = λ o s. op_more client shard told (record { number = session.number; outcome = outcome; contents = (unwrap_or session.contents []); saved = saved }) session.number session.used o (k.ops o s);
        true_told = so;
        phase = tt;
        quiet = refl;
      }

  refused_holds : (session : State) → Known session → (reply : Ruling) → Holds (refused session (ruling_told reply))
  refused_holds session k reply =
      cond_both (reply.status == 401) (ends session TokenDead) (cond (reply.status == 404) (ends session Gone) (tells session (HostFault reply.status))) Holds
      (λ e. ends_holds session k TokenDead tt)
      (λ e. cond_both (reply.status == 404) (ends session Gone) (tells session (HostFault reply.status)) Holds
      (λ e2. ends_holds session k Gone tt) (λ e2. tells_holds session k (HostFault reply.status) tt))

  -- an operation is sent
  sends_holds : (session : State) → Known session → (goal : Goal) (op : SessionOp) → OpHolds client shard told session.number session.used (sent_with session.body op) →
      IsSameAsSent sent (sent_with session.body op) → WaitHolds session.phase session.number (sent_with session.body op) → Holds (sends session goal op)
  sends_holds session k goal op new same wait =
      record {
        ops = k.ops;
        new = new;
        same = same;
        phase = k.phase;
        waits = λ w e. let one : record { goal = goal; op = op; tries = 1 } ≡ w = cc in sym (ap (λ (x : Waiting). sent_with session.body x.op) one);
        waits_for = wait;
      }

  -- a Put under an id that isn't used
  puts_holds : (session : State) → ((o : Sent) → sent o → OpHolds client shard told session.number session.used o) → session.used ≡ false →
      WasHeldIn client 1 shard → WasHeldIn client session.number shard → HasOpened told → session.phase ≡ Working → (body : Option (List ℕ)) → Holds (puts session body)
  puts_holds session ops unused first held opened working body =
      record {
        ops = λ o s. op_used client shard told session.number session.used o (ops o s);
        new = (held, omega arith, (λ e. cc), opened);
        same = λ c s. let low : session.number < session.number = (ops (Put session.number c) s).2 unused in absurd (omega (arith, low));
        phase = subst (PhaseHolds client shard told session.number) (sym working) (first, held, opened);
        waits = λ w e. let one : record { goal = ForSave; op = op_of.Put session.number; tries = 1 } ≡ w = cc in sym (ap (λ (x : Waiting). sent_with body x.op) one);
        waits_for = (working, refl);
      }

  relocks_holds : (session : State) → Known session → session.phase ≡ Working → (goal : Goal) (body : Option (List ℕ)) → Holds (relocks session goal body)
  relocks_holds session k working goal body =
      record {
        ops = k.ops;
        new = tt;
        same = tt;
        phase = k.phase;
        waits = λ w e2. let one : record { goal = goal; op = op_of.Relock session.number; tries = 1 } ≡ w = cc in sym (ap (λ (x : Waiting). sent_with body x.op) one);
        waits_for = (working, refl);
      }

  working_holds : (session : State) → Known session → session.phase ≡ Working → PhaseHolds client shard told session.number Working
  working_holds session k working = subst (PhaseHolds client shard told session.number) working k.phase

  -- the wishes of a session that works, while nothing waits
  saves_holds : (session : State) → Known session → session.phase ≡ Working → (contents : List ℕ) → Holds (saves session contents)
  saves_holds session k working contents =
      let w = working_holds session k working in
      let next : Turn = relocks session ForSave (Some contents) in
      cond_both (session.used || session.relocking) (cond (has_next session.number) next (ignores session (input.Save contents))) (puts session (Some contents)) Holds
      (λ e. cond_both (has_next session.number) next (ignores session (input.Save contents)) Holds (λ e2. relocks_holds session k working ForSave (Some contents)) (λ e2. tt))
      (λ e. puts_holds session k.ops (or_parts session.used session.relocking e).0 w.0 w.1 w.2 working (Some contents))

  settles_holds : (session : State) → Known session → session.phase ≡ Working → (goal : Goal) (op : SessionOp) (wish : Input) →
      Holds (sends session goal op) → Holds (settles_then session goal op wish)
  settles_holds session k working goal op wish own =
      let next : Turn = relocks session goal session.body in
      cond_both session.relocking (cond (has_next session.number) next (ignores session wish)) (sends session goal op) Holds
      (λ e. cond_both (has_next session.number) next (ignores session wish) Holds (λ e2. relocks_holds session k working goal session.body) (λ e2. tt))
      (λ e. own)

  new_only : (phase : Phase) → is_new_phase phase ≡ true → phase ≡ New
  new_only New h = refl
  new_only Working h = cc
  new_only Ended h = cc

  working_only : (phase : Phase) → is_working_phase phase ≡ true → phase ≡ Working
  working_only New h = cc
  working_only Working h = refl
  working_only Ended h = cc

  is_working : (session : State) → is_free session ≡ true → session.phase ≡ Working
  is_working session h = working_only session.phase (and_parts (is_working_phase session.phase) (is_none session.waits) h).0

  pub asked_holds : (session : State) → Known session → (wish : Wish) → Holds (stepped client.nonce session (input_of wish))
  asked_holds session k Start =
      cond_both (is_new session) (sends session ForStart op_of.Info) (ignores session input.Start) Holds
      (λ e.
      let new = new_only session.phase (and_parts (is_new_phase session.phase) (is_none session.waits) e).0 in
      sends_holds session k ForStart op_of.Info tt tt (λ e2. let bad : New ≡ Ended = sym new ∙ e2 in cc))
      (λ e. tt)
  asked_holds session k Read =
      cond_both (is_free session) (sends session ForRead op_of.Get) (ignores session input.Read) Holds
      (λ e.
      let working = is_working session e in
      sends_holds session k ForRead op_of.Get (working_holds session k working).0 tt (λ e2. let bad : Working ≡ Ended = sym working ∙ e2 in cc))
      (λ e. tt)
  asked_holds session k (Save contents) =
      cond_both (is_free session) (saves session contents) (ignores session (input.Save contents)) Holds
      (λ e. saves_holds session k (is_working session e) contents) (λ e. tt)
  asked_holds session k Refresh =
      let op : SessionOp = op_of.Refresh session.number in
      cond_both (is_free session) (settles_then session ForRefresh op input.Refresh) (ignores session input.Refresh) Holds
      (λ e. settles_holds session k (is_working session e) ForRefresh op input.Refresh (sends_holds session k ForRefresh op tt tt tt)) (λ e. tt)
  asked_holds session k Close =
      let op : SessionOp = op_of.Unlock session.number in
      cond_both (is_free session) (settles_then session ForClose op input.Close) (ignores session input.Close) Holds
      (λ e. settles_holds session k (is_working session e) ForClose op input.Close (sends_holds session k ForClose op tt tt tt)) (λ e. tt)

  -- the same operation is sent again
  again_same : (session : State) → Known session → (op : Sent) → sent op → IsSameAsSent sent op
  again_same session k Info s = tt
  again_same session k TakeLock s = tt
  again_same session k Get s = tt
  again_same session k (Put j d) s = λ c other. k.same j c d other s
  again_same session k (Relock j) s = tt
  again_same session k (RefreshLock j) s = tt
  again_same session k (Unlock j) s = tt

  unanswered_while_holds : (waits : Option Waiting) (session : State) → Known session → session.waits ≡ waits → Holds (unanswered_while waits session)
  unanswered_while_holds None session k e = tt
  unanswered_while_holds (Some waiting) session k e =
      let w = k.waits waiting e in
      cond_both (nat_lt waiting.tries 3)
      (record { session = record session { waits = Some (record waiting { tries = waiting.tries + 1 }) }; effect = Sends waiting.op }) (tells session NoAnswer) Holds
      (λ t. record {
        ops = k.ops;
        new = k.ops (sent_with session.body waiting.op) w.1;
        same = again_same session k (sent_with session.body waiting.op) w.1;
        phase = k.phase;
        waits = λ other e2. let one : record waiting { tries = waiting.tries + 1 } ≡ other = cc in sym (ap (λ (x : Waiting). sent_with session.body x.op) one);
        waits_for = w.0;
      })
      (λ t. tells_holds session k NoAnswer tt)

  pub unanswered_holds : (session : State) → Known session → Holds (unanswered session)
  unanswered_holds session k = unanswered_while_holds session.waits session k refl

  -- replies

  number_held : (phase : Phase) (number : ℕ) → WasHeldIn client 1 shard → phase ≢ Ended → PhaseHolds client shard told number phase → WasHeldIn client number shard
  number_held New number first not h = subst (λ (n : ℕ). WasHeldIn client n shard) (sym h) first
  number_held Working number first not h = h.1
  number_held Ended number first not h = absurd (not refl)

  read_only : (session : State) → Known session → (contents : Option (List ℕ)) (version : Option ℕ) → Holds (tells (record session { contents = contents }) (WasRead version))
  read_only session k contents version =
      record {
        ops = λ o s. op_more client shard told (record { number = session.number; outcome = WasRead version; contents = unwrap_or contents []; saved = saved }) session.number session.used o (k.ops o s);
        true_told = tt;
        phase = phase_more client shard told (record { number = session.number; outcome = WasRead version; contents = unwrap_or contents []; saved = saved }) session.number session.phase k.phase;
        quiet = refl;
      }

  was_read_holds : (session : State) → Known session → session.phase ≢ Ended → sent Get → (goal : Goal) (reply : Answer) →
      IsFresh client start shard history reply.body → Holds (was_read session goal reply)
  was_read_holds session k not get ForStart reply fresh =
      let one : Told = record { number = session.number; outcome = Opened reply.version; contents = reply.body; saved = saved } in
      let first : WasHeldIn client 1 shard = k.ops Get get in
      record {
        ops = λ o s. op_more client shard told one session.number session.used o (k.ops o s);
        true_told = fresh;
        phase = (first, number_held session.phase session.number first not k.phase, (length told, one, reply.version, get_new told one, refl));
        quiet = refl;
      }
  was_read_holds session k not get ForRead reply fresh = read_only session k (Some reply.body) reply.version
  was_read_holds session k not get ForSave reply fresh = read_only session k (Some reply.body) reply.version
  was_read_holds session k not get ForRefresh reply fresh = read_only session k (Some reply.body) reply.version
  was_read_holds session k not get ForClose reply fresh = read_only session k (Some reply.body) reply.version

  -- the session as it goes on under its next id
  next_sends : (session : State) → Known session → session.phase ≡ Working → WasHeldIn client (session.number + 1) shard → (goal : Goal) (op : SessionOp) →
      OpHolds client shard told (session.number + 1) false (sent_with session.body op) → IsSameAsSent sent (sent_with session.body op) →
      WaitHolds session.phase (session.number + 1) (sent_with session.body op) → Holds (sends (with_next session) goal op)
  next_sends session k working held goal op new same wait =
      let w = working_holds session k working in
      record {
        ops = λ o s. op_next client shard told session.number session.used false o (k.ops o s);
        new = new;
        same = same;
        phase = subst (PhaseHolds client shard told (session.number + 1)) (sym working) (w.0, held, w.2);
        waits = λ x e. let one : record { goal = goal; op = op; tries = 1 } ≡ x = cc in sym (ap (λ (y : Waiting). sent_with session.body y.op) one);
        waits_for = wait;
      }

  relocked_holds : (session : State) → Known session → session.phase ≡ Working → WasHeldIn client (session.number + 1) shard → (goal : Goal) (reply : Ruling) → Holds (continues_with session goal (ruling_told reply))
  relocked_holds session k working held ForStart reply = tt
  relocked_holds session k working held ForRead reply = tt
  relocked_holds session k working held ForSave reply =
      let w = working_holds session k working in
      puts_holds (with_next session) (λ o s. op_next client shard told session.number session.used false o (k.ops o s)) refl w.0 held w.2 working session.body
  relocked_holds session k working held ForRefresh reply = next_sends session k working held ForRefresh (op_of.Refresh (session.number + 1)) tt tt tt
  relocked_holds session k working held ForClose reply = next_sends session k working held ForClose (op_of.Unlock (session.number + 1)) tt tt tt

  continues_holds : (session : State) → Known session → session.phase ≡ Working → WasHeldIn client (session.number + 1) shard → (goal : Goal) (reply : Ruling) → Holds (continues session goal (ruling_told reply))
  continues_holds session k working held goal reply =
      cond_both (has_next session.number) (continues_with session goal (ruling_told reply)) (ignores session (input.Reply (ruling_told reply))) Holds
      (λ e. relocked_holds session k working held goal reply) (λ e. tt)

  reply_holds : (session : State) → Known session → (goal : Goal) (op : SessionOp) (reply : Ruling) → WaitHolds session.phase session.number (sent_with session.body op) →
      sent (sent_with session.body op) → ReplyHolds client start shard history (sent_with session.body op) reply → saved ≡ contents_with session.body op → Holds (reply_to client.nonce session goal op (ruling_told reply))
  reply_holds session k goal op_of.Info reply wait s r is =
      cond_both (reply.status == 200) (sends session goal op_of.TakeLock) (refused session (ruling_told reply)) Holds
      (λ e. sends_holds session k goal op_of.TakeLock tt tt wait) (λ e. refused_holds session k reply)
  reply_holds session k goal op_of.TakeLock reply wait s r is =
      cond_both (reply.status == 200) (sends session goal op_of.Get) (cond (reply.status == 409) (tells session (InConflict reply.lock reply.reason)) (refused session (ruling_told reply))) Holds
      (λ e. sends_holds session k goal op_of.Get (r (eqb-true reply.status 200 e)) tt wait)
      (λ e. cond_both (reply.status == 409) (tells session (InConflict reply.lock reply.reason)) (refused session (ruling_told reply)) Holds
      (λ e2. tells_holds session k (InConflict reply.lock reply.reason) tt) (λ e2. refused_holds session k reply))
  reply_holds session k goal op_of.Get reply wait s r is =
      cond_both (reply.status == 200) (was_read session goal (ruling_told reply)) (refused session (ruling_told reply)) Holds
      (λ e. let ok = eqb-true reply.status 200 e in
      was_read_holds session k wait s goal (ruling_told reply) (subst (IsFresh client start shard history) (sym (told_body reply (λ fault. omega (arith, ok, fault)))) (r ok)))
      (λ e. refused_holds session k reply)
  reply_holds session k goal (op_of.Put j) reply wait s r is =
      cond_both (reply.status == 200) (tells session (Saved reply.version))
      (cond (reply.status == 409) (ends session (LockLost reply.lock reply.reason)) (cond (reply.status == 413) (tells session TooLarge) (refused session (ruling_told reply)))) Holds
      (λ e. tells_holds session k (Saved reply.version) (subst (λ (c : List ℕ). WasSaved client history session.number c reply.version) (sym is)
      (subst (λ (n : ℕ). WasSaved client history n (unwrap_or session.body []) reply.version) wait.1 (r (eqb-true reply.status 200 e)))))
      (λ e. cond_both (reply.status == 409) (ends session (LockLost reply.lock reply.reason)) (cond (reply.status == 413) (tells session TooLarge) (refused session (ruling_told reply))) Holds
      (λ e2. ends_holds session k (LockLost reply.lock reply.reason) tt)
      (λ e2. cond_both (reply.status == 413) (tells session TooLarge) (refused session (ruling_told reply)) Holds
      (λ e3. tells_holds session k TooLarge tt) (λ e3. refused_holds session k reply)))
  reply_holds session k goal (op_of.Relock j) reply wait s r is =
      let held : WasHeldIn client (j + 1) shard → WasHeldIn client (session.number + 1) shard = λ h. subst (λ (n : ℕ). WasHeldIn client (n + 1) shard) wait.1 h in
      let lost : Turn = ends session (LockLost reply.lock reply.reason) in
      let named : Bool = names reply.lock (lock_id client.nonce (session.number + 1)) in
      let test : Bool = has_next session.number && named in
      cond_both (reply.status == 200) (continues session goal (ruling_told reply))
      (cond (reply.status == 409) (cond test (continues session goal (ruling_told reply)) lost) (refused session (ruling_told reply))) Holds
      (λ e. continues_holds session k wait.0 (held (r.0 (eqb-true reply.status 200 e))) goal reply)
      (λ e. cond_both (reply.status == 409) (cond test (continues session goal (ruling_told reply)) lost) (refused session (ruling_told reply)) Holds
      (λ e2. cond_both test (continues session goal (ruling_told reply)) lost Holds
      (λ e3. continues_holds session k wait.0
      (held (r.1 (eqb-true reply.status 409 e2)
      (subst (λ (n : ℕ). names reply.lock (lock_id client.nonce (n + 1)) ≡ true) (sym wait.1) (and_parts (has_next session.number) named e3).1))) goal reply)
      (λ e3. ends_holds session k (LockLost reply.lock reply.reason) tt))
      (λ e2. refused_holds session k reply))
  reply_holds session k goal (op_of.Refresh j) reply wait s r is =
      cond_both (reply.status == 200) (tells session Refreshed) (cond (reply.status == 409) (ends session (LockLost reply.lock reply.reason)) (refused session (ruling_told reply))) Holds
      (λ e. tells_holds session k Refreshed tt)
      (λ e. cond_both (reply.status == 409) (ends session (LockLost reply.lock reply.reason)) (refused session (ruling_told reply)) Holds
      (λ e2. ends_holds session k (LockLost reply.lock reply.reason) tt) (λ e2. refused_holds session k reply))
  reply_holds session k goal (op_of.Unlock j) reply wait s r is =
      let lost : Turn = ends session (LockLost reply.lock reply.reason) in
      cond_both (reply.status == 200) (ends session Closed)
      (cond (reply.status == 409) (cond (says_spent reply.reason) (ends session Closed) lost) (refused session (ruling_told reply))) Holds
      (λ e. ends_holds session k Closed tt)
      (λ e. cond_both (reply.status == 409) (cond (says_spent reply.reason) (ends session Closed) lost) (refused session (ruling_told reply)) Holds
      (λ e2. cond_both (says_spent reply.reason) (ends session Closed) lost Holds
      (λ e3. ends_holds session k Closed tt) (λ e3. ends_holds session k (LockLost reply.lock reply.reason) tt))
      (λ e2. refused_holds session k reply))

  answered_while_holds : (waits : Option Waiting) (session : State) → Known session → session.waits ≡ waits → (reply : Ruling) →
      ((w : Waiting) → session.waits ≡ Some w → ReplyHolds client start shard history (sent_with session.body w.op) reply) → saved ≡ body_while waits session.body →
      Holds (answered_while client.nonce waits session (ruling_told reply))
  answered_while_holds None session k e reply r is = tt
  answered_while_holds (Some w) session k e reply r is =
      let wait = k.waits w e in
      reply_holds session k w.goal w.op reply wait.0 wait.1 (r w e) is

  pub answered_holds : (session : State) → Known session → (reply : Ruling) →
      ((w : Waiting) → session.waits ≡ Some w → ReplyHolds client start shard history (sent_with session.body w.op) reply) → saved ≡ body_of session → Holds (answered client.nonce session (ruling_told reply))
  answered_holds session k reply r is = answered_while_holds session.waits session k refl reply r is
