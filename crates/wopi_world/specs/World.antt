-- A world: one shard with its history, the sessions of some clients, and all that was ever sent between them.
use Rattle.std.specs.Prelude.{◌≡◌, ℕ, ◌+◌, Bool, true, false, not, ◌&&◌, List, [], ◌∷◌, ◌++◌, length, Option, None, Some, unwrap_or, ◌==◌, if◌then◌else◌}
use Rattle.std.specs.List.{slice_get}
use Rattle.wopi_text.specs.declared.reason.Reason.{Reason}
use Rattle.wopi_text.specs.declared.reason.Reason.TheVariants as reason
use Rattle.wopi_model.specs.declared.calls.Call.{Call}
use Rattle.wopi_model.specs.declared.calls.Ruling.{Ruling}
use Rattle.wopi_model.specs.Act.{is_stored}
use Rattle.wopi_model.specs.Step.{Decision, Accept, decision, ruling_of, store_fault, bare}
use Rattle.wopi_model.specs.Shard as shard
use Rattle.wopi_model.specs.Shard.{Shard, Opening, Tick, Step, opened_shard, at_moment, entries}
use Rattle.wopi_acts.specs.Answers.{ruling_told}
use Rattle.save_session.specs.declared.output.Outcome.{Outcome}
use Rattle.save_session.specs.declared.state.State.{State}
use Rattle.save_session.specs.declared.state.Effect.{Effect}
use Rattle.save_session.specs.declared.state.Effect.TheVariants.{Sends, Tells, Ignores}
use Rattle.save_session.specs.declared.state.Turn.{Turn}
use Rattle.save_session.specs.declared.input.Input.TheVariants.{Reply as Replies, NoAnswer}
use Rattle.save_session.specs.Session.{new_session, stepped, body_of}
use Rattle.wopi_world.specs.History.{Item, Ran, Restarted, last_run, happens, opening_names, names_after, greatest}
use Rattle.wopi_world.specs.Requests.{Client, Wish, Sent, input_of, sent_with, call_of}

pub record Setting : Type 0 where
  pub opening : Opening
  pub opened : ℕ
  pub first : ℕ  -- the version of the opening files
  pub clients : List Client

-- what a session sent; a request is known by its place among all requests
pub record Request : Type 0 where
  pub sender : ℕ
  pub op : Sent

-- what the host answered to which request, if to a session's, and how long the history was before and after
pub record Reply : Type 0 where
  pub request : Option ℕ
  pub before : ℕ
  pub after : ℕ
  pub ruling : Ruling

-- An outcome, the session's number then, the contents that it had read last, and those that the Put carried for whose answer it waited: none
-- where it waited for no Put.
pub record Told : Type 0 where
  pub number : ℕ
  pub outcome : Outcome
  pub contents : List ℕ
  pub saved : List ℕ

-- a session, the place of the request that it waits for, and what it told
pub record Member : Type 0 where
  pub session : State
  pub asked : Option ℕ
  pub told : List Told

pub record World : Type 0 where
  pub shard : Shard
  pub history : List Item
  pub requests : List Request
  pub replies : List Reply
  pub members : ℕ → Member
  pub faulty : Bool  -- the next store fails

abbrev pub first_shard : Setting → Shard
first_shard setting = opened_shard setting.opening setting.opened setting.first

abbrev pub first_world : Setting → World
first_world setting =
    record {
      shard = first_shard setting;
      history = [];
      requests = [];
      replies = [];
      members = λ s. record { session = new_session; asked = None; told = [] };
      faulty = false;
    }

-- What somebody else asks: nothing that a host could read a token from; one call; or a copy (PutRelativeFile), which
-- looks at a file and then tries names for the copy, one after another. A target that can't be a name has no call to try.
pub data Ask : Type 0 where
  Unread : Ask
  One : (call : Call) → Ask
  Copy : (look : Call) (creates : List Call) → Ask

-- what may happen next; a loss is a delivery that never comes
pub data Event : Type 0 where
  Asks : (s : ℕ) (wish : Wish) → Event
  Deliver : (request : ℕ) (moment : ℕ) → Event
  Answer : (reply : ℕ) → Event
  Lose : (s : ℕ) → Event
  Foreign : (ask : Ask) (moment : ℕ) → Event
  Ticks : (moment : ℕ) → Event
  Entry : (call : Call) (moment : ℕ) → Event
  Restarts : (moment : ℕ) → Event
  Fault : Event
  Refused : (request : ℕ) (status : ℕ) → Event

abbrev pub is_accept : Decision → Bool
is_accept Accept = true
is_accept _ = false

-- the shard can't store what it would accept; at is the shard at the call's moment
abbrev pub is_faulted : Bool → Shard → Call → Bool
is_faulted faulty at call = faulty && (is_stored call.act && is_accept (decision (at.files call.name) call at.opened at.now))

abbrev pub ruling_at : Bool → Shard → Call → Ruling
ruling_at faulty at call =
    if is_faulted faulty at call then store_fault
    else ruling_of (decision (at.files call.name) call at.opened at.now) (at.files call.name) call at.now

abbrev pub ruling_in : World → Call → ℕ → Ruling
ruling_in world call moment = ruling_at world.faulty (at_moment world.shard moment) call

-- entries are stamped by their number since the last restart
abbrev pub next_stamp : World → ℕ
next_stamp world = length (entries (last_run world.history)) + 1

-- the entry that a call at a moment makes
abbrev pub entry_of : World → Call → ℕ → shard.Entry
entry_of world call moment =
    record { stamp = next_stamp world; pass = 0; moment = moment; call = call; ruling = ruling_in world call moment }

abbrev pub item_of : World → Call → ℕ → Item
item_of world call moment = Ran (Step (entry_of world call moment))

abbrev pub with_item : World → Item → World
with_item world item = record world { shard = happens world.shard item; history = world.history ++ item ∷ [] }

-- a call at a moment becomes an entry
abbrev pub enters : World → Call → ℕ → World
enters world call moment =
    record (with_item world (item_of world call moment)) { faulty = world.faulty && not (is_faulted world.faulty (at_moment world.shard moment) call) }

abbrev pub replied : World → Option ℕ → ℕ → Ruling → World
replied world request before ruling =
    record world { replies = world.replies ++ record { request = request; before = before; after = length world.history; ruling = ruling } ∷ [] }

abbrev pub delivered_by : World → ℕ → ℕ → Sent → Option Client → World
delivered_by world place moment op None = world
delivered_by world place moment op (Some client) =
    replied (enters world (call_of client op) moment) (Some place) (length world.history) (ruling_in world (call_of client op) moment)

abbrev pub delivered : Setting → World → ℕ → ℕ → Option Request → World
delivered setting world place moment None = world
delivered setting world place moment (Some request) = delivered_by world place moment request.op (slice_get setting.clients request.sender)

-- a call of somebody else, and its reply
abbrev pub asks_one : World → Call → ℕ → ℕ → World
asks_one world call moment before = replied (enters world call moment) None before (ruling_in world call moment)

abbrev pub is_taken : Option Reason → Bool
is_taken (Some reason.Taken) = true
is_taken _ = false

-- names are tried until one isn't taken; the reply tells the last ruling
abbrev pub tries : World → List Call → ℕ → ℕ → Ruling → World
tries world [] moment before last = replied world None before last
tries world (call ∷ calls) moment before last =
    if is_taken (ruling_in world call moment).reason then tries (enters world call moment) calls moment before (ruling_in world call moment)
    else asks_one world call moment before

abbrev pub foreign : World → Ask → ℕ → ℕ → World
foreign world Unread moment before = replied world None before (bare 401)
foreign world (One call) moment before = asks_one world call moment before
foreign world (Copy look creates) moment before =
    if (ruling_in world look moment).status == 200 then tries (enters world look moment) creates moment before (bare 400)
    else asks_one world look moment before

abbrev pub with_member : World → ℕ → Member → World
with_member world s member = record world { members = λ other. if other == s then member else world.members other }

-- what a session did: a request is sent, or an outcome told
abbrev pub takes : World → ℕ → Member → State → Effect → World
takes world s member session (Sends op) =
    record (with_member world s (record { session = session; asked = Some (length world.requests); told = member.told }))
    { requests = world.requests ++ record { sender = s; op = sent_with session.body op } ∷ [] }
takes world s member session (Tells outcome) =
    with_member world s (record {
      session = session;
      asked = None;
      told = member.told ++ record { number = session.number; outcome = outcome; contents = (unwrap_or session.contents []); saved = body_of member.session } ∷ [];
    })
takes world s member session (Ignores input) = world

abbrev pub turns : World → ℕ → Turn → World
turns world s turn = takes world s (world.members s) turn.session turn.effect

abbrev pub for_client : World → Option Client → (Client → World) → World
for_client world None body = world
for_client world (Some client) body = body client

-- the session waits for just that request
abbrev pub is_asked : Option ℕ → ℕ → Bool
is_asked None place = false
is_asked (Some own) place = own == place

-- The session is answered with what tells the ruling. It looks at no body but a read's, so what the bodies of a fault or of
-- CheckFileInfo say is left out.
abbrev pub answers_sender : Setting → World → ℕ → Ruling → Option Request → World
answers_sender setting world place ruling None = world
answers_sender setting world place ruling (Some request) =
    for_client world (slice_get setting.clients request.sender) (λ client.
    if is_asked (world.members request.sender).asked place
    then turns world request.sender (stepped client.nonce (world.members request.sender).session (Replies (ruling_told ruling)))
    else world)

abbrev pub answers_place : Setting → World → Ruling → Option ℕ → World
answers_place setting world ruling None = world
answers_place setting world ruling (Some place) = answers_sender setting world place ruling (slice_get world.requests place)

abbrev pub answers : Setting → World → Option Reply → World
answers setting world None = world
answers setting world (Some reply) = answers_place setting world reply.ruling reply.request

abbrev pub refuses : World → ℕ → ℕ → Option Request → World
refuses world place status None = world
refuses world place status (Some request) = replied world (Some place) (length world.history) (bare status)

-- the version that files begin with after a restart
abbrev pub next_first : Setting → World → ℕ
next_first setting world = greatest world.shard (names_after (opening_names setting.opening) world.history) + 1

abbrev pub comes : Setting → World → Event → World
comes setting world (Asks s wish) =
    for_client world (slice_get setting.clients s) (λ client. turns world s (stepped client.nonce (world.members s).session (input_of wish)))
comes setting world (Deliver request moment) = delivered setting world request moment (slice_get world.requests request)
comes setting world (Answer reply) = answers setting world (slice_get world.replies reply)
comes setting world (Lose s) = for_client world (slice_get setting.clients s) (λ client. turns world s (stepped client.nonce (world.members s).session NoAnswer))
comes setting world (Foreign ask moment) = foreign world ask moment (length world.history)
comes setting world (Ticks moment) = with_item world (Ran (Tick moment))
comes setting world (Entry call moment) = enters world call moment
comes setting world (Restarts moment) = with_item world (Restarted moment (next_first setting world))
comes setting world Fault = record world { faulty = true }
comes setting world (Refused request status) = refuses world request status (slice_get world.requests request)

-- the same shard, with the same history
abbrev pub IsSameHistory : World → World → Type 0
IsSameHistory one other = (one.shard ≡ other.shard) × (one.history ≡ other.history)

-- the world after the events, in order
abbrev pub run_from : Setting → World → List Event → World
run_from setting world [] = world
run_from setting world (event ∷ events) = run_from setting (comes setting world event) events

abbrev pub run : Setting → List Event → World
run setting events = run_from setting (first_world setting) events
