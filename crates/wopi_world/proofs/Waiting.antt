-- What a session sends waits for its answer.
use Rattle.std.proofs.Common.{◌≡◌, ℕ, ◌+◌, Bool, true, cond, ◌||◌, ◌&&◌, List, Option, None, Some, refl}
use Rattle.std.specs.Prelude.{◌==◌, nat_lt}
use Rattle.std.proofs.lemmas.Bool.{cond_both}
use Rattle.wopi_headers.specs.declared.answer.Answer.{Answer}
use Rattle.save_session.specs.declared.input.Input.{Input}
use Rattle.save_session.specs.declared.input.Input.TheVariants as input
use Rattle.save_session.specs.declared.output.Outcome.TheVariants as outcome
use Rattle.save_session.specs.declared.state.Goal.{Goal}
use Rattle.save_session.specs.declared.state.Goal.TheVariants as goal
use Rattle.save_session.specs.declared.state.SessionOp.{SessionOp}
use Rattle.save_session.specs.declared.state.SessionOp.TheVariants as op
use Rattle.save_session.specs.declared.state.Waiting.{Waiting}
use Rattle.save_session.specs.declared.state.State.{State}
use Rattle.save_session.specs.declared.state.Effect.{Effect}
use Rattle.save_session.specs.declared.state.Effect.TheVariants.{Sends}
use Rattle.save_session.specs.declared.state.Turn.{Turn}
use Rattle.save_session.specs.LockIds.{lock_id}
use Rattle.save_session.specs.Session.{stepped, saves, puts, relocks, settles_then, sends, tells, ends, loses, ignores, refused, was_read, continues, continues_with, with_next, has_next, names, says_spent, reply_to, answered_while, unanswered_while, is_new, is_free}

-- what is sent waits for its answer
abbrev pub WaitsFor : Effect → State → Type 0
WaitsFor (Sends asked) session = (waiting : Waiting) × (session.waits ≡ Some waiting) × (waiting.op ≡ asked)
WaitsFor _ session = Unit {0}

abbrev Waits : Turn → Type 0
Waits turn = WaitsFor turn.effect turn.session

sent_waits : (session : State) (purpose : Goal) (asked : SessionOp) → Waits (sends session purpose asked)
sent_waits session purpose asked = (record { goal = purpose; op = asked; tries = 1 }, refl, refl)

settles_waits : (session : State) (purpose : Goal) (asked : SessionOp) (given : Input) → Waits (settles_then session purpose asked given)
settles_waits session purpose asked given =
    cond_both session.relocking (cond (has_next session.number) (relocks session purpose session.body) (ignores session given)) (sends session purpose asked) Waits
    (λ e. cond_both (has_next session.number) (relocks session purpose session.body) (ignores session given) Waits
    (λ e2. sent_waits (record session { relocking = true; body = session.body }) purpose (op.Relock session.number)) (λ e2. tt))
    (λ e. sent_waits session purpose asked)

saves_waits : (session : State) (contents : List ℕ) → Waits (saves session contents)
saves_waits session contents =
    cond_both (session.used || session.relocking) (cond (has_next session.number) (relocks session goal.Save (Some contents)) (ignores session (input.Save contents)))
    (puts session (Some contents)) Waits
    (λ e. cond_both (has_next session.number) (relocks session goal.Save (Some contents)) (ignores session (input.Save contents)) Waits
    (λ e2. sent_waits (record session { relocking = true; body = Some contents }) goal.Save (op.Relock session.number)) (λ e2. tt))
    (λ e. sent_waits (record session { used = true; body = Some contents }) goal.Save (op.Put session.number))

unanswered_waits : (waits : Option Waiting) (session : State) → Waits (unanswered_while waits session)
unanswered_waits None session = tt
unanswered_waits (Some waiting) session =
    cond_both (nat_lt waiting.tries 3)
    (record { session = record session { waits = Some (record waiting { tries = waiting.tries + 1 }) }; effect = Sends waiting.op }) (tells session outcome.NoAnswer) Waits
    (λ e. (record waiting { tries = waiting.tries + 1 }, refl, refl)) (λ e. tt)

refused_waits : (session : State) (reply : Answer) → Waits (refused session reply)
refused_waits session reply =
    cond_both (reply.status == 401) (ends session outcome.TokenDead) (cond (reply.status == 404) (ends session outcome.Gone) (tells session (outcome.HostFault reply.status))) Waits
    (λ e. tt) (λ e. cond_both (reply.status == 404) (ends session outcome.Gone) (tells session (outcome.HostFault reply.status)) Waits (λ e2. tt) (λ e2. tt))

read_waits : (session : State) (purpose : Goal) (reply : Answer) → Waits (was_read session purpose reply)
read_waits session goal.Start reply = tt
read_waits session goal.Read reply = tt
read_waits session goal.Save reply = tt
read_waits session goal.Refresh reply = tt
read_waits session goal.Close reply = tt

goes_on_waits : (session : State) (purpose : Goal) (reply : Answer) → Waits (continues_with session purpose reply)
goes_on_waits session goal.Start reply = tt
goes_on_waits session goal.Read reply = tt
goes_on_waits session goal.Save reply = sent_waits (record (with_next session) { used = true; body = session.body }) goal.Save (op.Put (session.number + 1))
goes_on_waits session goal.Refresh reply = sent_waits (with_next session) goal.Refresh (op.Refresh (session.number + 1))
goes_on_waits session goal.Close reply = sent_waits (with_next session) goal.Close (op.Unlock (session.number + 1))

continues_waits : (session : State) (purpose : Goal) (reply : Answer) → Waits (continues session purpose reply)
continues_waits session purpose reply =
    cond_both (has_next session.number) (continues_with session purpose reply) (ignores session (input.Reply reply)) Waits
    (λ e. goes_on_waits session purpose reply) (λ e. tt)

-- a choice between two that wait as they should
choice : (test : Bool) (x y : Turn) → Waits x → Waits y → Waits (cond test x y)
choice test x y p q = cond_both test x y Waits (λ e. p) (λ e. q)

reply_waits : (nonce : List ℕ) (session : State) (purpose : Goal) (asked : SessionOp) (reply : Answer) → Waits (reply_to nonce session purpose asked reply)
reply_waits nonce session purpose op.Info reply =
    choice (reply.status == 200) (sends session purpose op.TakeLock) (refused session reply) (sent_waits session purpose op.TakeLock) (refused_waits session reply)
reply_waits nonce session purpose op.TakeLock reply =
    let conflict = tells session (outcome.Conflict reply.lock reply.reason) in
    choice (reply.status == 200) (sends session purpose op.Get) (cond (reply.status == 409) conflict (refused session reply)) (sent_waits session purpose op.Get)
    (choice (reply.status == 409) conflict (refused session reply) tt (refused_waits session reply))
reply_waits nonce session purpose op.Get reply =
    choice (reply.status == 200) (was_read session purpose reply) (refused session reply) (read_waits session purpose reply) (refused_waits session reply)
reply_waits nonce session purpose (op.Put number) reply =
    let large = cond (reply.status == 413) (tells session outcome.TooLarge) (refused session reply) in
    choice (reply.status == 200) (tells session (outcome.Saved reply.version)) (cond (reply.status == 409) (loses session reply) large) tt
    (choice (reply.status == 409) (loses session reply) large tt
    (choice (reply.status == 413) (tells session outcome.TooLarge) (refused session reply) tt (refused_waits session reply)))
reply_waits nonce session purpose (op.Relock number) reply =
    let test = has_next session.number && names reply.lock (lock_id nonce (session.number + 1)) in
    let on = continues session purpose reply in
    choice (reply.status == 200) on (cond (reply.status == 409) (cond test on (loses session reply)) (refused session reply)) (continues_waits session purpose reply)
    (choice (reply.status == 409) (cond test on (loses session reply)) (refused session reply)
    (choice test on (loses session reply) (continues_waits session purpose reply) tt) (refused_waits session reply))
reply_waits nonce session purpose (op.Refresh number) reply =
    choice (reply.status == 200) (tells session outcome.Refreshed) (cond (reply.status == 409) (loses session reply) (refused session reply)) tt
    (choice (reply.status == 409) (loses session reply) (refused session reply) tt (refused_waits session reply))
reply_waits nonce session purpose (op.Unlock number) reply =
    let done = ends session outcome.Closed in
    choice (reply.status == 200) done (cond (reply.status == 409) (cond (says_spent reply.reason) done (loses session reply)) (refused session reply)) tt
    (choice (reply.status == 409) (cond (says_spent reply.reason) done (loses session reply)) (refused session reply)
    (choice (says_spent reply.reason) done (loses session reply) tt tt) (refused_waits session reply))

answer_waits : (nonce : List ℕ) (waits : Option Waiting) (session : State) (reply : Answer) → Waits (answered_while nonce waits session reply)
answer_waits nonce None session reply = tt
answer_waits nonce (Some waiting) session reply = reply_waits nonce session waiting.goal waiting.op reply

-- whatever comes, what a session sends waits for its answer
pub stepped_waits : (nonce : List ℕ) (session : State) (given : Input) → WaitsFor (stepped nonce session given).effect (stepped nonce session given).session
stepped_waits nonce session input.Start =
    choice (is_new session) (sends session goal.Start op.Info) (ignores session input.Start) (sent_waits session goal.Start op.Info) tt
stepped_waits nonce session input.Read =
    choice (is_free session) (sends session goal.Read op.Get) (ignores session input.Read) (sent_waits session goal.Read op.Get) tt
stepped_waits nonce session (input.Save contents) =
    choice (is_free session) (saves session contents) (ignores session (input.Save contents)) (saves_waits session contents) tt
stepped_waits nonce session input.Refresh =
    choice (is_free session) (settles_then session goal.Refresh (op.Refresh session.number) input.Refresh) (ignores session input.Refresh)
    (settles_waits session goal.Refresh (op.Refresh session.number) input.Refresh) tt
stepped_waits nonce session input.Close =
    choice (is_free session) (settles_then session goal.Close (op.Unlock session.number) input.Close) (ignores session input.Close)
    (settles_waits session goal.Close (op.Unlock session.number) input.Close) tt
stepped_waits nonce session (input.Reply reply) = answer_waits nonce session.waits session reply
stepped_waits nonce session input.NoAnswer = unanswered_waits session.waits session
