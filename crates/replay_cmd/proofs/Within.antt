-- What a line of a schedule adds to a world.
use Rattle.std.proofs.Common.{◌≡◌, ◌≤◌, ◌⊎◌, ◌+◌, ◌*◌, ◌==◌, ℕ, Bool, cond, ◌||◌, ◌&&◌, List, [], ◌∷◌, ◌++◌, length, Option, None, Some, unwrap_or, refl, sym, ap, ◌∙◌, subst, inl, inr, arith}
use Rattle.std.specs.Prelude.{⊤, nat_lt}
use Rattle.std.proofs.lemmas.Bool.{cond_both}
use Rattle.std.proofs.lemmas.List.{map-append, length-append}
use Rattle.std.specs.List.{slice_get}
use Rattle.wopi_headers.specs.declared.answer.Answer.{Answer}
use Rattle.wopi_headers.specs.declared.ask.Op.{Op}
use Rattle.wopi_headers.specs.declared.ask.Op.TheVariants as asked_op
use Rattle.wopi_headers.specs.declared.ask.Target.{Target}
use Rattle.wopi_headers.specs.declared.ask.Target.TheVariants.{Suggested, Relative}
use Rattle.wopi_model.specs.declared.calls.Act.TheVariants as act
use Rattle.wopi_model.specs.declared.calls.Call.{Call}
use Rattle.wopi_model.specs.declared.calls.Ruling.{Ruling}
use Rattle.wopi_model.specs.Host.{new_bytes}
use Rattle.wopi_model.specs.Step.{bare}
use Rattle.wopi_model.specs.Shard.{Entry, Tick, Step, entries, stamps, last_from}
use Rattle.wopi_acts.specs.Acts.{act_with}
use Rattle.wopi_acts.specs.Answers.{ruling_told}
use Rattle.save_session.specs.declared.input.Input.{Input}
use Rattle.save_session.specs.declared.input.Input.TheVariants as input
use Rattle.save_session.specs.declared.output.Outcome.TheVariants as outcome
use Rattle.save_session.specs.declared.state.Goal.{Goal}
use Rattle.save_session.specs.declared.state.Goal.TheVariants as goal
use Rattle.save_session.specs.declared.state.SessionOp.{SessionOp}
use Rattle.save_session.specs.declared.state.SessionOp.TheVariants as op
use Rattle.save_session.specs.declared.state.State.{State}
use Rattle.save_session.specs.declared.state.Effect.{Effect}
use Rattle.save_session.specs.declared.state.Effect.TheVariants.{Sends, Tells, Ignores}
use Rattle.save_session.specs.declared.state.Turn.{Turn}
use Rattle.save_session.specs.declared.state.Waiting.{Waiting}
use Rattle.save_session.specs.LockIds.{lock_id}
use Rattle.save_session.specs.Session.{stepped, op_of, saves, puts, relocks, settles_then, sends, tells, ends, loses, ignores, refused, was_read, continues, continues_with, has_next, names, says_spent, reply_to, answered_while, unanswered_while, is_new, is_free, body_of}
use Rattle.wopi_world.specs.Requests.{Client, Sent, operation, body, sent_with, call_of, input_of}
use Rattle.wopi_world.specs.History.{Item, Ran, Restarted, last_run, names_after, opening_names}
use Rattle.wopi_world.specs.World as in_world
use Rattle.wopi_world.specs.World.{Setting, World, Request, Member, comes, enters, entry_of, replied, delivered, delivered_by, asks_one, tries, foreign, takes, turns, for_client, is_asked, is_taken, answers, answers_place, answers_sender, ruling_in, with_item, first_world, next_first}
use Rattle.wopi_world.proofs.Lists.{get_back}
use Rattle.schedule_text.specs.declared.schedule.ForeignAsk.{ForeignAsk}
use Rattle.schedule_text.specs.declared.schedule.Wish.{Wish}
use Rattle.schedule_text.specs.declared.schedule.Wish.TheVariants as wish
use Rattle.schedule_text.specs.declared.schedule.EventLine.{EventLine}
use Rattle.schedule_text.specs.declared.schedule.EventLine.TheVariants as line
use Rattle.schedule_text.specs.Schedules.{IsEventLine, IsSchedule, IsShortWish, Lines, most_contents}
use Rattle.replay_cmd.specs.Runs.{place_of, wish_of, foreign_token, foreign_call, creates_of, asked_by, event_in, setting_of}
use Rattle.replay_cmd.specs.Limits.{kept_by, kept_in, HoldsAtMost, IsLow, IsWithin}
use Rattle.replay_cmd.proofs.LastRun.{entries_ticked, entries_stepped, entries_restarted, kept_pushed}
use Rattle.replay_cmd.proofs.Low.{low_later, low_entry, low_restarted, low_wider, greatest_low, first_low}

-- ---- entries

pub kept_most : (entry : Entry) → kept_by entry ≤ new_bytes entry.call.act
kept_most entry =
    cond_both (entry.ruling.status == 200) (new_bytes entry.call.act) 0 (λ (n : ℕ). n ≤ new_bytes entry.call.act) (λ e. omega arith) (λ e. omega arith)

pub last_pushed : (low : ℕ) (xs : List ℕ) (x : ℕ) → last_from low (xs ++ x ∷ []) ≡ x
last_pushed low [] x = refl
last_pushed low (y ∷ xs) x = last_pushed y xs x

-- a call more
holds_more : (world : World) (call : Call) (moment count bytes more : ℕ) → HoldsAtMost count bytes world.history → new_bytes call.act ≤ more
    → HoldsAtMost (count + 1) (bytes + more) (enters world call moment).history
holds_more world call moment count bytes more h short =
    let entry : Entry = entry_of world call moment in
    let old : List Entry = entries (last_run world.history) in
    let new : List Entry = entries (last_run (enters world call moment).history) in
    let same : new ≡ old ++ entry ∷ [] = entries_stepped world.history entry in
    let long : length new ≡ length old + 1 = ap (λ (l : List Entry). length l) same ∙ length-append old (entry ∷ []) in
    let last : last_from 0 (stamps new) ≡ length old + 1 =
    ap (λ (l : List Entry). last_from 0 (stamps l)) same
    ∙ ap (last_from 0) (map-append (λ (e : Entry). e.stamp) old (entry ∷ []))
    ∙ last_pushed 0 (stamps old) entry.stamp in
    let sum : kept_in (enters world call moment).history ≡ kept_in world.history + kept_by entry = kept_pushed world.history (Ran (Step entry)) in
    let most : kept_by entry ≤ new_bytes call.act = kept_most entry in
    let few : length old ≤ count = h.few in
    let small : kept_in world.history ≤ bytes = h.small in
    record { few = omega (arith, long, few); last = omega (arith, last, few); small = omega (arith, sum, most, short, small) }

holds_wider : (history : List Item) (count bytes count' bytes' : ℕ) → HoldsAtMost count bytes history → count ≤ count' → bytes ≤ bytes' → HoldsAtMost count' bytes' history
holds_wider history count bytes count' bytes' h more wider =
    let few : length (entries (last_run history)) ≤ count = h.few in
    let last : last_from 0 (stamps (entries (last_run history))) ≤ count = h.last in
    let small : kept_in history ≤ bytes = h.small in
    record { few = omega (arith, few, more); last = omega (arith, last, more); small = omega (arith, small, wider) }

-- what a line may add to the entries and the files
abbrev Adds : ℕ → World → Type 0
Adds count world = HoldsAtMost (2 * (count + 1)) (most_contents * (count + 1)) world.history × IsLow (2 * (count + 1) + 1) world.shard

module _ (count : ℕ) (world : World) (h : HoldsAtMost (2 * count) (most_contents * count) world.history) (low : IsLow (2 * count + 1) world.shard) where
  adds_none : Adds count world
  adds_none = (
    holds_wider world.history (2 * count) (most_contents * count) (2 * (count + 1)) (most_contents * (count + 1)) h (omega arith) (omega arith),
    low_wider (2 * count + 1) (2 * (count + 1) + 1) world.shard low (omega arith),
  )

  adds_one : (call : Call) (moment : ℕ) → new_bytes call.act ≤ most_contents → Adds count (enters world call moment)
  adds_one call moment short =
      let after : World = enters world call moment in (
        holds_wider after.history (2 * count + 1) (most_contents * count + most_contents) (2 * (count + 1)) (most_contents * (count + 1))
            (holds_more world call moment (2 * count) (most_contents * count) most_contents h short) (omega arith) (omega arith),
        low_wider ((2 * count + 1) + 1) (2 * (count + 1) + 1) after.shard (low_entry (2 * count + 1) world.shard low (entry_of world call moment) short) (omega arith),
      )

  adds_two : (first second : Call) (moment : ℕ) → new_bytes first.act ≤ 0 → new_bytes second.act ≤ most_contents → Adds count (enters (enters world first moment) second moment)
  adds_two first second moment none short =
      let middle : World = enters world first moment in
      let after : World = enters middle second moment in
      let one : IsLow ((2 * count + 1) + 1) middle.shard = low_entry (2 * count + 1) world.shard low (entry_of world first moment) (omega (arith, none)) in (
        holds_wider after.history ((2 * count + 1) + 1) ((most_contents * count + 0) + most_contents) (2 * (count + 1)) (most_contents * (count + 1))
            (holds_more middle second moment (2 * count + 1) (most_contents * count + 0) most_contents
            (holds_more world first moment (2 * count) (most_contents * count) 0 h none) short) (omega arith) (omega arith),
        low_wider (((2 * count + 1) + 1) + 1) (2 * (count + 1) + 1) after.shard
            (low_entry ((2 * count + 1) + 1) middle.shard one (entry_of middle second moment) short) (omega arith),
      )

-- ---- sessions

abbrev IsShort : Option (List ℕ) → Type 0
IsShort contents = length (unwrap_or contents []) ≤ most_contents

abbrev IsShortTurn : Turn → Type 0
IsShortTurn turn = IsShort turn.session.body

abbrev IsShortInput : Input → Type 0
IsShortInput (input.Save contents) = length contents ≤ most_contents
IsShortInput _ = ⊤

short_none : IsShort None
short_none = omega arith

choice : (test : Bool) (x y : Turn) → IsShortTurn x → IsShortTurn y → IsShortTurn (cond test x y)
choice test x y p q = cond_both test x y IsShortTurn (λ e. p) (λ e. q)

-- what is to be saved stays, is dropped, or is what comes to be saved
module _ (session : State) (short : IsShort session.body) where
  settles_short : (purpose : Goal) (asked : SessionOp) (given : Input) → IsShortTurn (settles_then session purpose asked given)
  settles_short purpose asked given =
      choice session.relocking (cond (has_next session.number) (relocks session purpose session.body) (ignores session given)) (sends session purpose asked)
      (choice (has_next session.number) (relocks session purpose session.body) (ignores session given) short short) short

  saves_short : (contents : List ℕ) → length contents ≤ most_contents → IsShortTurn (saves session contents)
  saves_short contents new =
      choice (session.used || session.relocking) (cond (has_next session.number) (relocks session goal.Save (Some contents)) (ignores session (input.Save contents)))
      (puts session (Some contents)) (choice (has_next session.number) (relocks session goal.Save (Some contents)) (ignores session (input.Save contents)) new short) new

  unanswered_short : (waits : Option Waiting) → IsShortTurn (unanswered_while waits session)
  unanswered_short None = short
  unanswered_short (Some waiting) =
      choice (nat_lt waiting.tries 3)
      (record { session = record session { waits = Some (record waiting { tries = waiting.tries + 1 }) }; effect = Sends waiting.op }) (tells session outcome.NoAnswer)
      short short_none

  refused_short : (reply : Answer) → IsShortTurn (refused session reply)
  refused_short reply =
      choice (reply.status == 401) (ends session outcome.TokenDead) (cond (reply.status == 404) (ends session outcome.Gone) (tells session (outcome.HostFault reply.status)))
      short_none (choice (reply.status == 404) (ends session outcome.Gone) (tells session (outcome.HostFault reply.status)) short_none short_none)

  read_short : (purpose : Goal) (reply : Answer) → IsShortTurn (was_read session purpose reply)
  read_short goal.Start reply = short_none
  read_short goal.Read reply = short_none
  read_short goal.Save reply = short_none
  read_short goal.Refresh reply = short_none
  read_short goal.Close reply = short_none

  goes_on_short : (purpose : Goal) (reply : Answer) → IsShortTurn (continues_with session purpose reply)
  goes_on_short goal.Start reply = short
  goes_on_short goal.Read reply = short
  goes_on_short goal.Save reply = short
  goes_on_short goal.Refresh reply = short
  goes_on_short goal.Close reply = short

  continues_short : (purpose : Goal) (reply : Answer) → IsShortTurn (continues session purpose reply)
  continues_short purpose reply =
      choice (has_next session.number) (continues_with session purpose reply) (ignores session (input.Reply reply)) (goes_on_short purpose reply) short

  reply_short : (nonce : List ℕ) (purpose : Goal) (asked : SessionOp) (reply : Answer) → IsShortTurn (reply_to nonce session purpose asked reply)
  reply_short nonce purpose op.Info reply =
      choice (reply.status == 200) (sends session purpose op.TakeLock) (refused session reply) short (refused_short reply)
  reply_short nonce purpose op.TakeLock reply =
      let conflict = tells session (outcome.Conflict reply.lock reply.reason) in
      choice (reply.status == 200) (sends session purpose op.Get) (cond (reply.status == 409) conflict (refused session reply)) short
      (choice (reply.status == 409) conflict (refused session reply) short_none (refused_short reply))
  reply_short nonce purpose op.Get reply =
      choice (reply.status == 200) (was_read session purpose reply) (refused session reply) (read_short purpose reply) (refused_short reply)
  reply_short nonce purpose (op.Put number) reply =
      let large = cond (reply.status == 413) (tells session outcome.TooLarge) (refused session reply) in
      choice (reply.status == 200) (tells session (outcome.Saved reply.version)) (cond (reply.status == 409) (loses session reply) large) short_none
      (choice (reply.status == 409) (loses session reply) large short_none
      (choice (reply.status == 413) (tells session outcome.TooLarge) (refused session reply) short_none (refused_short reply)))
  reply_short nonce purpose (op.Relock number) reply =
      let test = has_next session.number && names reply.lock (lock_id nonce (session.number + 1)) in
      let on = continues session purpose reply in
      choice (reply.status == 200) on (cond (reply.status == 409) (cond test on (loses session reply)) (refused session reply)) (continues_short purpose reply)
      (choice (reply.status == 409) (cond test on (loses session reply)) (refused session reply)
      (choice test on (loses session reply) (continues_short purpose reply) short_none) (refused_short reply))
  reply_short nonce purpose (op.Refresh number) reply =
      choice (reply.status == 200) (tells session outcome.Refreshed) (cond (reply.status == 409) (loses session reply) (refused session reply)) short_none
      (choice (reply.status == 409) (loses session reply) (refused session reply) short_none (refused_short reply))
  reply_short nonce purpose (op.Unlock number) reply =
      let done = ends session outcome.Closed in
      choice (reply.status == 200) done (cond (reply.status == 409) (cond (says_spent reply.reason) done (loses session reply)) (refused session reply)) short_none
      (choice (reply.status == 409) (cond (says_spent reply.reason) done (loses session reply)) (refused session reply)
      (choice (says_spent reply.reason) done (loses session reply) short_none short_none) (refused_short reply))

  answer_short : (nonce : List ℕ) (waits : Option Waiting) (reply : Answer) → IsShortTurn (answered_while nonce waits session reply)
  answer_short nonce None reply = short
  answer_short nonce (Some waiting) reply = reply_short nonce waiting.goal waiting.op reply

  stepped_short : (nonce : List ℕ) (given : Input) → IsShortInput given → IsShortTurn (stepped nonce session given)
  stepped_short nonce input.Start new = choice (is_new session) (sends session goal.Start op.Info) (ignores session input.Start) short short
  stepped_short nonce input.Read new = choice (is_free session) (sends session goal.Read op.Get) (ignores session input.Read) short short
  stepped_short nonce (input.Save contents) new =
      choice (is_free session) (saves session contents) (ignores session (input.Save contents)) (saves_short contents new) short
  stepped_short nonce input.Refresh new =
      choice (is_free session) (settles_then session goal.Refresh (op.Refresh session.number) input.Refresh) (ignores session input.Refresh)
      (settles_short goal.Refresh (op.Refresh session.number) input.Refresh) short
  stepped_short nonce input.Close new =
      choice (is_free session) (settles_then session goal.Close (op.Unlock session.number) input.Close) (ignores session input.Close)
      (settles_short goal.Close (op.Unlock session.number) input.Close) short
  stepped_short nonce (input.Reply reply) new = answer_short nonce session.waits reply
  stepped_short nonce input.NoAnswer new = unanswered_short session.waits

sent_short : (contents : Option (List ℕ)) (asked : SessionOp) → IsShort contents → length (body (sent_with contents asked)) ≤ most_contents
sent_short contents op.Info h = omega arith
sent_short contents op.TakeLock h = omega arith
sent_short contents op.Get h = omega arith
sent_short contents (op.Put number) h = h
sent_short contents (op.Relock number) h = omega arith
sent_short contents (op.Refresh number) h = omega arith
sent_short contents (op.Unlock number) h = omega arith

-- ---- what comes

module _ (count : ℕ) (world : World) (h : IsWithin count world) where
  -- nothing but entries and replies is more
  with_history : (after : World) → Adds count after → after.requests ≡ world.requests → after.members ≡ world.members → IsWithin (count + 1) after
  with_history after held requests members =
      record {
        held = held.0;
        files = held.1;
        sent = λ place request at. h.sent place request (ap (λ (l : List Request). slice_get l place) (sym requests) ∙ at);
        wanted = λ s. subst (λ (m : ℕ → Member). IsShort (m s).session.body) (sym members) (h.wanted s);
      }

  stays : IsWithin (count + 1) world
  stays = with_history world (adds_none count world h.held h.files) refl refl

  took : (s : ℕ) (session : State) (effect : Effect) → IsShort session.body → IsWithin (count + 1) (takes world s (world.members s) session effect)
  took s session (Sends asked) short =
      let new : Member = record { session = session; asked = Some (length world.requests); told = (world.members s).told } in
      let request : Request = record { sender = s; op = sent_with session.body asked } in
      record {
        held = (adds_none count world h.held h.files).0;
        files = (adds_none count world h.held h.files).1;
        sent = λ place found at. elim (get_back world.requests request place found at) [
          | inl old ↦ h.sent place found old
          | inr last ↦ subst (λ (r : Request). length (body r.op) ≤ most_contents) last.1 (sent_short session.body asked short)
        ];
        wanted = λ other. cond_both (other == s) new (world.members other) (λ (m : Member). IsShort m.session.body) (λ e. short) (λ e. h.wanted other);
      }
  took s session (Tells told) short =
      let new : Member = record {
        session = session;
        asked = None;
        told = (world.members s).told ++ record { number = session.number; outcome = told; contents = unwrap_or session.contents []; saved = body_of (world.members s).session } ∷ [];
      } in
      record {
        held = (adds_none count world h.held h.files).0;
        files = (adds_none count world h.held h.files).1;
        sent = h.sent;
        wanted = λ other. cond_both (other == s) new (world.members other) (λ (m : Member). IsShort m.session.body) (λ e. short) (λ e. h.wanted other);
      }
  took s session (Ignores given) short = stays

  turned : (nonce : List ℕ) (s : ℕ) (given : Input) → IsShortInput given
      → IsWithin (count + 1) (turns world s (stepped nonce (world.members s).session given))
  turned nonce s given new =
      let turn : Turn = stepped nonce (world.members s).session given in
      took s turn.session turn.effect (stepped_short (world.members s).session (h.wanted s) nonce given new)

  client_turned : (s : ℕ) (given : Input) → IsShortInput given → (found : Option Client)
      → IsWithin (count + 1) (for_client world found (λ client. turns world s (stepped client.nonce (world.members s).session given)))
  client_turned s given new None = stays
  client_turned s given new (Some client) = turned client.nonce s given new

  sender_answered : (setting : Setting) (place : ℕ) (ruling : Ruling) (found : Option Request) → IsWithin (count + 1) (answers_sender setting world place ruling found)
  sender_answered setting place ruling None = stays
  sender_answered setting place ruling (Some request) = by_client (slice_get setting.clients request.sender)
    where
      by_client : (found : Option Client) → IsWithin (count + 1) (for_client world found (λ client.
          cond (is_asked (world.members request.sender).asked place)
          (turns world request.sender (stepped client.nonce (world.members request.sender).session (input.Reply (ruling_told ruling)))) world))
      by_client None = stays
      by_client (Some client) =
          cond_both (is_asked (world.members request.sender).asked place)
          (turns world request.sender (stepped client.nonce (world.members request.sender).session (input.Reply (ruling_told ruling)))) world (IsWithin (count + 1))
          (λ e. turned client.nonce request.sender (input.Reply (ruling_told ruling)) tt) (λ e. stays)

  place_answered : (setting : Setting) (ruling : Ruling) (found : Option ℕ) → IsWithin (count + 1) (answers_place setting world ruling found)
  place_answered setting ruling None = stays
  place_answered setting ruling (Some place) = sender_answered setting place ruling (slice_get world.requests place)

  answered : (setting : Setting) (found : Option in_world.Reply) → IsWithin (count + 1) (answers setting world found)
  answered setting None = stays
  answered setting (Some reply) = place_answered setting reply.ruling reply.request

  -- an act with its contents
  act_short : (asked : Op) (contents : List ℕ) → length contents ≤ most_contents → new_bytes (act_with contents asked) ≤ most_contents
  act_short asked_op.Info contents short = omega arith
  act_short (asked_op.Get most) contents short = omega arith
  act_short (asked_op.Put lock) contents short = short
  act_short (asked_op.Lock id) contents short = omega arith
  act_short asked_op.GetLock contents short = omega arith
  act_short (asked_op.Refresh id) contents short = omega arith
  act_short (asked_op.Unlock id) contents short = omega arith
  act_short (asked_op.Relock old id) contents short = omega arith
  act_short (asked_op.PutRelative target) contents short = omega arith
  act_short asked_op.Delete contents short = omega arith

  one_asked : (call : Call) (moment before : ℕ) → new_bytes call.act ≤ most_contents → IsWithin (count + 1) (asks_one world call moment before)
  one_asked call moment before short = with_history (asks_one world call moment before) (adds_one count world h.held h.files call moment short) refl refl

  client_delivered : (place moment : ℕ) (sent : Sent) → length (body sent) ≤ most_contents → (found : Option Client) → IsWithin (count + 1) (delivered_by world place moment sent found)
  client_delivered place moment sent short None = stays
  client_delivered place moment sent short (Some client) =
      let call : Call = call_of client sent in
      with_history (delivered_by world place moment sent (Some client))
      (adds_one count world h.held h.files call moment (act_short (op_of client.nonce (operation sent)) (body sent) short)) refl refl

  request_delivered : (setting : Setting) (place moment : ℕ) (found : Option Request) → slice_get world.requests place ≡ found → IsWithin (count + 1) (delivered setting world place moment found)
  request_delivered setting place moment None at = stays
  request_delivered setting place moment (Some request) at =
      client_delivered place moment request.op (h.sent place request at) (slice_get setting.clients request.sender)

  -- a copy: a look, and one name that is tried
  module _ (opened : ℕ) (ask : ForeignAsk) (moment before : ℕ) (short : length ask.body ≤ most_contents) where
    module _ (look : Call) (looks : new_bytes look.act ≤ 0) where
      abbrev looked : World
      looked = enters world look moment

      only_looked : Adds count looked
      only_looked = adds_one count world h.held h.files look moment (omega (arith, looks))

      tried : (creates : List Call) → (creates ≡ []) ⊎ ((create : Call) × (creates ≡ create ∷ []) × (new_bytes create.act ≤ most_contents))
          → (last : Ruling) → IsWithin (count + 1) (tries looked creates moment before last)
      tried creates (inl none) last =
          subst (λ (l : List Call). IsWithin (count + 1) (tries looked l moment before last)) (sym none)
          (with_history (replied looked None before last) only_looked refl refl)
      tried creates (inr one) last =
          let create : Call = one.0 in
          let both : Adds count (enters looked create moment) = adds_two count world h.held h.files look create moment looks one.2 in
          let ruling : Ruling = ruling_in looked create moment in
          subst (λ (l : List Call). IsWithin (count + 1) (tries looked l moment before last)) (sym one.1)
          (cond_both (is_taken ruling.reason) (replied (enters looked create moment) None before ruling) (asks_one looked create moment before) (IsWithin (count + 1))
          (λ e. with_history (replied (enters looked create moment) None before ruling) both refl refl)
          (λ e. with_history (asks_one looked create moment before) both refl refl))

    one_create : (target : Target) (found : Option (List ℕ))
        → (creates_of opened ask target found ≡ []) ⊎ ((create : Call) × (creates_of opened ask target found ≡ create ∷ []) × (new_bytes create.act ≤ most_contents))
    one_create (Suggested text) found = inl refl
    one_create (Relative name overwrite) None = inl refl
    one_create (Relative name overwrite) (Some target) =
        inr (record { name = target; token = foreign_token opened ask; act = act.Create overwrite ask.body }, refl, short)

    copied : (target : Target) → ask.op ≡ asked_op.PutRelative target → IsWithin (count + 1) (foreign world (asked_by opened ask (asked_op.PutRelative target)) moment before)
    copied target is =
        let look : Call = foreign_call opened ask in
        let none : new_bytes look.act ≡ 0 = ap (λ (o : Op). new_bytes (act_with ask.body o)) is in
        let looks : new_bytes look.act ≤ 0 = omega (arith, none) in
        cond_both ((ruling_in world look moment).status == 200) (tries (enters world look moment) (creates_of opened ask target ask.target) moment before (bare 400)) (asks_one world look moment before)
        (IsWithin (count + 1)) (λ e. tried look looks (creates_of opened ask target ask.target) (one_create target ask.target) (bare 400))
        (λ e. one_asked look moment before (omega (arith, none)))

    foreign_asked : (asked : Op) → ask.op ≡ asked → IsWithin (count + 1) (foreign world (asked_by opened ask asked) moment before)
    foreign_asked asked_op.Info is = one_asked (foreign_call opened ask) moment before (act_short ask.op ask.body short)
    foreign_asked (asked_op.Get most) is = one_asked (foreign_call opened ask) moment before (act_short ask.op ask.body short)
    foreign_asked (asked_op.Put lock) is = one_asked (foreign_call opened ask) moment before (act_short ask.op ask.body short)
    foreign_asked (asked_op.Lock id) is = one_asked (foreign_call opened ask) moment before (act_short ask.op ask.body short)
    foreign_asked asked_op.GetLock is = one_asked (foreign_call opened ask) moment before (act_short ask.op ask.body short)
    foreign_asked (asked_op.Refresh id) is = one_asked (foreign_call opened ask) moment before (act_short ask.op ask.body short)
    foreign_asked (asked_op.Unlock id) is = one_asked (foreign_call opened ask) moment before (act_short ask.op ask.body short)
    foreign_asked (asked_op.Relock old id) is = one_asked (foreign_call opened ask) moment before (act_short ask.op ask.body short)
    foreign_asked (asked_op.PutRelative target) is = copied target is
    foreign_asked asked_op.Delete is = one_asked (foreign_call opened ask) moment before (act_short ask.op ask.body short)

  wished : (wish : Wish) → IsShortWish wish → IsShortInput (input_of (wish_of wish))
  wished wish.Start short = tt
  wished wish.Read short = tt
  wished (wish.Save contents) short = short
  wished wish.Refresh short = tt
  wished wish.Close short = tt

  ticked : (moment : ℕ) → IsWithin (count + 1) (with_item world (Ran (Tick moment)))
  ticked moment =
      let same : entries (last_run (world.history ++ Ran (Tick moment) ∷ [])) ≡ entries (last_run world.history) = entries_ticked world.history moment in
      let held = (adds_none count world h.held h.files).0 in
      with_history (with_item world (Ran (Tick moment))) (
        record {
          few = subst (λ (l : List Entry). length l ≤ 2 * (count + 1)) (sym same) held.few;
          last = subst (λ (l : List Entry). last_from 0 (stamps l) ≤ 2 * (count + 1)) (sym same) held.last;
          small = let kept = held.small in let more = kept_pushed world.history (Ran (Tick moment)) in omega (arith, kept, more);
        },
        low_later (2 * (count + 1) + 1) world.shard (adds_none count world h.held h.files).1 moment,
      ) refl refl

  restarted : (moment first : ℕ) → first ≤ (2 * count + 1) + 1 → IsWithin (count + 1) (with_item world (Restarted moment first))
  restarted moment first within =
      let none : entries (last_run (world.history ++ Restarted moment first ∷ [])) ≡ [] = entries_restarted world.history moment first in
      with_history (with_item world (Restarted moment first)) (
        record {
          few = subst (λ (l : List Entry). length l ≤ 2 * (count + 1)) (sym none) (omega arith);
          last = subst (λ (l : List Entry). last_from 0 (stamps l) ≤ 2 * (count + 1)) (sym none) (omega arith);
          small = let kept = h.held.small in let more = kept_pushed world.history (Restarted moment first) in omega (arith, kept, more);
        },
        low_restarted (2 * count + 1) world.shard h.files (2 * (count + 1) + 1) moment first (omega (arith, within)),
      ) refl refl

  -- a line more
  pub one_within : (setting : Setting) (event : EventLine) → IsEventLine event → IsWithin (count + 1) (comes setting world (event_in world event))
  one_within setting (line.Asks s wish) can = client_turned s (input_of (wish_of wish)) (wished wish can) (slice_get setting.clients s)
  one_within setting (line.Deliver request moment) can =
      let place : ℕ = place_of request (length world.requests) in
      request_delivered setting place moment (slice_get world.requests place) refl
  one_within setting (line.Answer reply) can = answered setting (slice_get world.replies (place_of reply (length world.replies)))
  one_within setting (line.Lose s) can = client_turned s input.NoAnswer tt (slice_get setting.clients s)
  one_within setting (line.Ticks moment) can = ticked moment
  one_within setting (line.Restarts moment) can =
      let most = greatest_low (2 * count + 1) world.shard h.files (names_after (opening_names setting.opening) world.history) in
      restarted moment (next_first setting world) (omega (arith, most))
  one_within setting (line.Foreign moment ask) can = foreign_asked world.shard.opened ask moment (length world.history) can.3 ask.op refl

-- before the first line
pub first_within : (lines : Lines) → IsSchedule lines → IsWithin 0 (first_world (setting_of lines))
first_within lines form =
    record {
      held = record { few = omega arith; last = omega arith; small = omega arith };
      files = first_low lines form;
      sent = λ place request at. cc;
      wanted = λ s. short_none;
    }
