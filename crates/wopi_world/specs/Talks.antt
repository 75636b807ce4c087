-- One session over one shard, with no world around them: what the session heard, what happened in the shard, and in which order.
use Rattle.std.specs.Prelude.{◌≡◌, ◌≢◌, ⊤, ℕ, ◌<◌, List, [], ◌∷◌, ◌++◌, Option, None, Some, unwrap_or, ◌==◌, if◌then◌else◌}
use Rattle.std.specs.List.{slice_get, Contains}
use Rattle.wopi_text.specs.declared.lock_field.LockField.{LockField}
use Rattle.wopi_text.specs.declared.lock_field.LockField.TheVariants as field
use Rattle.wopi_text.specs.declared.reason.Reason.TheVariants.{Changed}
use Rattle.wopi_model.specs.declared.calls.Ruling.{Ruling}
use Rattle.wopi_model.specs.Shard.{Shard, Step, Entry}
use Rattle.wopi_headers.specs.declared.answer.Answer.{Answer}
use Rattle.wopi_acts.specs.Answers.{ruling_told}
use Rattle.save_session.specs.declared.input.Input.{Input}
use Rattle.save_session.specs.declared.input.Input.TheVariants.{Reply}
use Rattle.save_session.specs.declared.state.SessionOp.{SessionOp}
use Rattle.save_session.specs.declared.state.SessionOp.TheVariants as op
use Rattle.save_session.specs.declared.state.State.{State}
use Rattle.save_session.specs.declared.state.Waiting.{Waiting}
use Rattle.save_session.specs.declared.state.Effect.{Effect}
use Rattle.save_session.specs.declared.state.Effect.TheVariants.{Sends, Tells, Ignores}
use Rattle.save_session.specs.declared.state.Turn.{Turn}
use Rattle.save_session.specs.Session.{new_session, stepped, body_of}
use Rattle.wopi_world.specs.History.{Item, Ran, Restarted}
use Rattle.wopi_world.specs.Requests.{Client, Sent, Put, sent_with, call_of, look_of, PresentsNone}
use Rattle.wopi_world.specs.World.{Told}
use Rattle.wopi_world.specs.Safe.{SavesAreOrdered}
use Rattle.wopi_world.specs.Sessions.{KeepsIds, IsUse}

-- In an answer of 200 to the operation the session sees the version and the body of a Get, the version of a Put, and else nothing.
abbrev pub IsSameText : SessionOp → Answer → Answer → Type 0
IsSameText op.Get one other = (one.version ≡ other.version) × (one.body ≡ other.body)
IsSameText (op.Put number) one other = one.version ≡ other.version
IsSameText _ one other = ⊤

-- the lock id in the field; a field that is empty has none, as one that isn't there
abbrev pub id_in : LockField → Option (List ℕ)
id_in (field.Held id) = Some id
id_in _ = None

-- A session that waits for the operation sees no difference between the answers: of a 409 it sees the lock id and the reason.
pub record LooksSame (asked : SessionOp) (one other : Answer) : Type 0 where
  pub status : one.status ≡ other.status
  pub lock : one.status ≡ 409 → id_in one.lock ≡ id_in other.lock
  pub reason : one.status ≡ 409 → one.reason ≡ other.reason
  pub text : one.status ≡ 200 → IsSameText asked one other

-- a session, with all that it sent and told so far
pub record Speaker : Type 0 where
  pub session : State
  pub sent : List Sent
  pub told : List Told

abbrev pub first_speaker : Speaker
first_speaker = record { session = new_session; sent = []; told = [] }

abbrev pub does : Speaker → State → Effect → Speaker
does speaker session (Sends asked) = record { session = session; sent = speaker.sent ++ sent_with session.body asked ∷ []; told = speaker.told }
does speaker session (Tells outcome) =
    record {
      session = session;
      sent = speaker.sent;
      told = speaker.told ++ record { number = session.number; outcome = outcome; contents = (unwrap_or session.contents []); saved = body_of speaker.session } ∷ [];
    }
does speaker session (Ignores input) = speaker

abbrev pub turns : Speaker → Turn → Speaker
turns speaker turn = does speaker turn.session turn.effect

-- an input comes to the session
abbrev pub hears : Client → Speaker → Input → Speaker
hears client speaker input = turns speaker (stepped client.nonce speaker.session input)

abbrev pub hears_all : Client → Speaker → List Input → Speaker
hears_all client speaker [] = speaker
hears_all client speaker (input ∷ heard) = hears_all client (hears client speaker input) heard

-- what a session told that heard just these inputs, from its beginning
abbrev pub told_by : Client → List Input → List Told
told_by client heard = (hears_all client first_speaker heard).told

-- the session waits for the answer to that request
pub record Awaits (speaker : Speaker) (sent : Sent) : Type 0 where
  pub waiting : Waiting
  pub waits : speaker.session.waits ≡ Some waiting
  pub sent_is : sent ≡ sent_with speaker.session.body waiting.op

-- a request that arrived, and how it was ruled
pub record Came : Type 0 where
  pub sent : Sent
  pub ruling : Ruling

-- What a Put is told in whose stead the file's lock was looked at: where the look was accepted, the lock that stands, and that the file was
-- changed; else what the look was ruled.
abbrev pub changed_by : Ruling → Ruling
changed_by ruling = if ruling.status == 200 then record ruling { status = 409; reason = Some Changed } else ruling

abbrev pub IsNoReply : Input → Type 0
IsNoReply (Reply answer) = ⊥
IsNoReply _ = ⊤

-- on the session's file the item presents none of the session's ids
abbrev pub IsOfOthers : Client → Item → Type 0
IsOfOthers client (Ran (Step entry)) = PresentsNone client entry.call
IsOfOthers client _ = ⊤

-- The inputs come to the session in their order, and the items happen in the shard in theirs. How the two interleave is open, but that
-- an entry that came of a request stands behind what made the session send it, and before the answer that tells it is heard.
pub data TalksOver (client : Client) : Speaker → List Came → List Input → List Item → Type 0 where
  ends : (speaker : Speaker) (came : List Came) → TalksOver client speaker came [] []
  -- the session is asked for something, or no answer comes to it
  prompted : (speaker : Speaker) (came : List Came) (input : Input) (heard : List Input) (items : List Item)
      → IsNoReply input → TalksOver client (hears client speaker input) came heard items → TalksOver client speaker came (input ∷ heard) items
  -- an answer comes that tells what came before of the request for which the session waits
  answered : (speaker : Speaker) (came : List Came) (one : Came) (awaits : Awaits speaker one.sent) (answer : Answer) (heard : List Input) (items : List Item)
      → Contains came one → LooksSame awaits.waiting.op answer (ruling_told one.ruling)
      → TalksOver client (hears client speaker (Reply answer)) came heard items → TalksOver client speaker came (Reply answer ∷ heard) items
  -- an answer comes that tells no entry
  refused : (speaker : Speaker) (came : List Came) (answer : Answer) (heard : List Input) (items : List Item) → answer.status ≢ 200 → answer.status ≢ 409
      → TalksOver client (hears client speaker (Reply answer)) came heard items → TalksOver client speaker came (Reply answer ∷ heard) items
  -- a request that was sent arrives, for the first time or again
  arrives : (speaker : Speaker) (came : List Came) (sent : Sent) (entry : Entry) (heard : List Input) (items : List Item)
      → Contains speaker.sent sent → entry.call ≡ call_of client sent
      → TalksOver client speaker (came ++ record { sent = sent; ruling = entry.ruling } ∷ []) heard items → TalksOver client speaker came heard (Ran (Step entry) ∷ items)
  -- a Put that was sent arrives, and the file's lock is looked at in its stead, so that nothing is saved
  looked : (speaker : Speaker) (came : List Came) (number : ℕ) (contents : List ℕ) (entry : Entry) (heard : List Input) (items : List Item)
      → Contains speaker.sent (Put number contents) → entry.call ≡ look_of client
      → TalksOver client speaker (came ++ record { sent = Put number contents; ruling = changed_by entry.ruling } ∷ []) heard items
      → TalksOver client speaker came heard (Ran (Step entry) ∷ items)
  -- time goes on, the host restarts, or a call of others comes
  passes : (speaker : Speaker) (came : List Came) (item : Item) (heard : List Input) (items : List Item)
      → IsOfOthers client item → TalksOver client speaker came heard items → TalksOver client speaker came heard (item ∷ items)

-- a session that heard just these inputs, from its beginning, and what happened in the shard of its file beside it
abbrev pub IsTalkOver : Client → List Input → List Item → Type 0
IsTalkOver client heard history = TalksOver client first_speaker [] heard history

-- where something was accepted under the session's token before a restart, the token was issued before it
abbrev pub RestartsLater : Client → List Item → Type 0
RestartsLater client history =
    (before later : List Item) (moment first place : ℕ) (item : Item) → before ++ Restarted moment first ∷ later ≡ history → slice_get before place ≡ Some item →
    IsUse client item → client.token.issued < moment

-- what no history may do to a session that told this
pub record IsSafeFor (client : Client) (told : List Told) (start : Shard) (history : List Item) : Type 0 where
  pub saves : SavesAreOrdered client told start history
  pub ids : KeepsIds client start history
