-- The session machine: what each input does, which operations it sends and which outcomes it tells. (Own; the operations and the meaning of their statuses are MS-WOPI's.)
use Rattle.std.specs.Prelude.{ℕ, ◌+◌, ◌-◌, ◌^◌, Bool, true, false, ◌||◌, ◌&&◌, List, [], Option, None, Some, is_none, nat_lt, unwrap_or, ◌==◌, if◌then◌else◌}
use Rattle.std.specs.Str.{bytes_eq}
use Rattle.wopi_text.specs.declared.reason.Reason.{Reason}
use Rattle.wopi_text.specs.declared.reason.Reason.TheVariants as reason
use Rattle.wopi_text.specs.declared.lock_field.LockField.{LockField}
use Rattle.wopi_text.specs.declared.lock_field.LockField.TheVariants as field
use Rattle.wopi_headers.specs.declared.answer.Answer.{Answer}
use Rattle.wopi_headers.specs.declared.ask.Op.{Op}
use Rattle.wopi_headers.specs.declared.ask.Op.TheVariants as ask
use Rattle.save_session.specs.declared.input.Input.{Input}
use Rattle.save_session.specs.declared.input.Input.TheVariants.{Start, Read, Save, Refresh, Close, Reply, NoAnswer}
use Rattle.save_session.specs.declared.output.Outcome.{Outcome}
use Rattle.save_session.specs.declared.output.Outcome.TheVariants as outcome
use Rattle.save_session.specs.declared.output.Output.{Output}
use Rattle.save_session.specs.declared.output.Output.TheVariants as output
use Rattle.save_session.specs.declared.state.Phase.{Phase}
use Rattle.save_session.specs.declared.state.Phase.TheVariants.{New, Working, Ended}
use Rattle.save_session.specs.declared.state.Goal.{Goal}
use Rattle.save_session.specs.declared.state.Goal.TheVariants as goal
use Rattle.save_session.specs.declared.state.SessionOp.{SessionOp}
use Rattle.save_session.specs.declared.state.SessionOp.TheVariants as op
use Rattle.save_session.specs.declared.state.Waiting.{Waiting}
use Rattle.save_session.specs.declared.state.State.{State}
use Rattle.save_session.specs.declared.state.Effect.{Effect}
use Rattle.save_session.specs.declared.state.Effect.TheVariants.{Sends, Tells, Ignores}
use Rattle.save_session.specs.declared.state.Turn.{Turn}
use Rattle.save_session.specs.LockIds.{lock_id}

abbrev pub new_session : State
new_session = record { phase = New; number = 1; used = false; relocking = false; waits = None; body = None; contents = None }

-- the input is handed back, and nothing changes
abbrev pub ignores : State → Input → Turn
ignores session input = record { session = session; effect = Ignores input }

-- an operation is sent for the first time
abbrev pub sends : State → Goal → SessionOp → Turn
sends session purpose asked =
    record { session = record session { waits = Some (record { goal = purpose; op = asked; tries = 1 }) }; effect = Sends asked }

-- whenever an outcome is told nothing waits any more, and what a save wanted to write is dropped
abbrev pub tells : State → Outcome → Turn
tells session told = record { session = record session { waits = None; body = None }; effect = Tells told }

abbrev pub ends : State → Outcome → Turn
ends session told = tells (record session { phase = Ended }) told

-- numbers stay below the greatest u64
abbrev pub has_next : ℕ → Bool
has_next number = nat_lt number (2 ^ 64 - 2)

-- the relock to the next id, for a goal; body is what a save wants to write
abbrev pub relocks : State → Goal → Option (List ℕ) → Turn
relocks session purpose body = sends (record session { relocking = true; body = body }) purpose (op.Relock session.number)

abbrev pub puts : State → Option (List ℕ) → Turn
puts session body = sends (record session { used = true; body = body }) goal.Save (op.Put session.number)

-- Each id carries one save: where a Put was sent under this one, or its relock isn't settled, the session relocks first.
abbrev pub saves : State → List ℕ → Turn
saves session contents =
    if session.used || session.relocking
    then (if has_next session.number then relocks session goal.Save (Some contents) else ignores session (Save contents))
    else puts session (Some contents)

-- an operation under the id that is held, after a relock that isn't settled
abbrev pub settles_then : State → Goal → SessionOp → Input → Turn
settles_then session purpose asked input =
    if session.relocking
    then (if has_next session.number then relocks session purpose session.body else ignores session input)
    else sends session purpose asked

abbrev pub is_new_phase : Phase → Bool
is_new_phase New = true
is_new_phase _ = false

abbrev pub is_working_phase : Phase → Bool
is_working_phase Working = true
is_working_phase _ = false

-- the session is new, and nothing waits
abbrev pub is_new : State → Bool
is_new session = is_new_phase session.phase && is_none session.waits

-- the session works, and nothing waits
abbrev pub is_free : State → Bool
is_free session = is_working_phase session.phase && is_none session.waits

abbrev pub starts : State → Turn
starts session = if is_new session then sends session goal.Start op.Info else ignores session Start

abbrev pub reads : State → Turn
reads session = if is_free session then sends session goal.Read op.Get else ignores session Read

abbrev pub asks_to_save : State → List ℕ → Turn
asks_to_save session contents = if is_free session then saves session contents else ignores session (Save contents)

abbrev pub refreshes : State → Turn
refreshes session =
    if is_free session then settles_then session goal.Refresh (op.Refresh session.number) Refresh else ignores session Refresh

abbrev pub closes : State → Turn
closes session =
    if is_free session then settles_then session goal.Close (op.Unlock session.number) Close else ignores session Close

-- no answer came
abbrev pub unanswered_while : Option Waiting → State → Turn
unanswered_while None session = ignores session NoAnswer
unanswered_while (Some waiting) session =
    if nat_lt waiting.tries 3
    then record { session = record session { waits = Some (record waiting { tries = waiting.tries + 1 }) }; effect = Sends waiting.op }
    else tells session outcome.NoAnswer

abbrev pub unanswered : State → Turn
unanswered session = unanswered_while session.waits session

-- what any operation makes of a status that has no row of its own
abbrev pub refused : State → Answer → Turn
refused session reply =
    if reply.status == 401 then ends session outcome.TokenDead
    else if reply.status == 404 then ends session outcome.Gone
    else tells session (outcome.HostFault reply.status)

abbrev pub was_read : State → Goal → Answer → Turn
was_read session goal.Start reply =
    tells (record session { phase = Working; contents = Some reply.body }) (outcome.Opened reply.version)
was_read session _ reply = tells (record session { contents = Some reply.body }) (outcome.Read reply.version)

abbrev pub with_next : State → State
with_next session = record session { number = session.number + 1; used = false; relocking = false }

-- The next id is held, and what it was wanted for goes on. No relock is sent for a start or a read, nor where there is no next number, so that nothing is ever handed back here.
abbrev pub continues_with : State → Goal → Answer → Turn
continues_with session goal.Save reply = puts (with_next session) session.body
continues_with session goal.Refresh reply = sends (with_next session) goal.Refresh (op.Refresh (session.number + 1))
continues_with session goal.Close reply = sends (with_next session) goal.Close (op.Unlock (session.number + 1))
continues_with session _ reply = ignores session (Reply reply)

abbrev pub continues : State → Goal → Answer → Turn
continues session purpose reply =
    if has_next session.number then continues_with session purpose reply else ignores session (Reply reply)

-- the answer names that id
abbrev pub names : LockField → List ℕ → Bool
names (field.Held held) id = bytes_eq held id
names _ id = false

abbrev pub says_spent : Option Reason → Bool
says_spent (Some reason.Spent) = true
says_spent _ = false

abbrev pub loses : State → Answer → Turn
loses session reply = ends session (outcome.LockLost reply.lock reply.reason)

-- the answer to the operation that waits, by that operation
abbrev pub reply_to : List ℕ → State → Goal → SessionOp → Answer → Turn
reply_to nonce session purpose op.Info reply =
    if reply.status == 200 then sends session purpose op.TakeLock else refused session reply
reply_to nonce session purpose op.TakeLock reply =
    if reply.status == 200 then sends session purpose op.Get
    else if reply.status == 409 then tells session (outcome.Conflict reply.lock reply.reason)
    else refused session reply
reply_to nonce session purpose op.Get reply =
    if reply.status == 200 then was_read session purpose reply else refused session reply
reply_to nonce session purpose (op.Put number) reply =
    if reply.status == 200 then tells session (outcome.Saved reply.version)
    else if reply.status == 409 then loses session reply
    else if reply.status == 413 then tells session outcome.TooLarge
    else refused session reply
reply_to nonce session purpose (op.Relock number) reply =
    if reply.status == 200 then continues session purpose reply
    else if reply.status == 409
    then (
    if has_next session.number && names reply.lock (lock_id nonce (session.number + 1))
    then continues session purpose reply
    else loses session reply
    )
    else refused session reply
reply_to nonce session purpose (op.Refresh number) reply =
    if reply.status == 200 then tells session outcome.Refreshed
    else if reply.status == 409 then loses session reply
    else refused session reply
reply_to nonce session purpose (op.Unlock number) reply =
    if reply.status == 200 then ends session outcome.Closed
    else if reply.status == 409
    then (if says_spent reply.reason then ends session outcome.Closed else loses session reply)
    else refused session reply

abbrev pub answered_while : List ℕ → Option Waiting → State → Answer → Turn
answered_while nonce None session reply = ignores session (Reply reply)
answered_while nonce (Some waiting) session reply = reply_to nonce session waiting.goal waiting.op reply

-- an answer comes
abbrev pub answered : List ℕ → State → Answer → Turn
answered nonce session reply = answered_while nonce session.waits session reply

-- What the session with that nonce does about an input.
abbrev pub stepped : List ℕ → State → Input → Turn
stepped nonce session Start = starts session
stepped nonce session Read = reads session
stepped nonce session (Save contents) = asks_to_save session contents
stepped nonce session Refresh = refreshes session
stepped nonce session Close = closes session
stepped nonce session (Reply reply) = answered nonce session reply
stepped nonce session NoAnswer = unanswered session

-- an operation with the lock ids, as requests carry them
abbrev pub op_of : List ℕ → SessionOp → Op
op_of nonce op.Info = ask.Info
op_of nonce op.TakeLock = ask.Lock (lock_id nonce 1)
op_of nonce op.Get = ask.Get None
op_of nonce (op.Put number) = ask.Put (Some (lock_id nonce number))
op_of nonce (op.Relock number) = ask.Relock (lock_id nonce number) (lock_id nonce (number + 1))
op_of nonce (op.Refresh number) = ask.Refresh (lock_id nonce number)
op_of nonce (op.Unlock number) = ask.Unlock (lock_id nonce number)

abbrev pub output_of : List ℕ → Effect → Output
output_of nonce (Sends asked) = output.Send (op_of nonce asked)
output_of nonce (Tells told) = output.Tell told
output_of nonce (Ignores input) = output.Ignored input

-- the contents that go with an operation
abbrev pub contents_with : Option (List ℕ) → SessionOp → List ℕ
contents_with body (op.Put number) = unwrap_or body []
contents_with body _ = []

abbrev pub body_while : Option Waiting → Option (List ℕ) → List ℕ
body_while None body = []
body_while (Some waiting) body = contents_with body waiting.op

-- the contents of the Put that waits for its answer, and else none
abbrev pub body_of : State → List ℕ
body_of session = body_while session.waits session.body

-- what was read last
abbrev pub contents_of : State → List ℕ
contents_of session = unwrap_or session.contents []
