-- What goes over the wire while a schedule runs, and what is made of what comes. (Own.)
use Rattle.std.specs.Prelude.{◌≡◌, ℕ, true, List, [], ◌∷◌, ◌++◌, length, max, Option, None, Some, Ok}
use Rattle.std.specs.List.{slice_get}
use Rattle.access_tokens.specs.TokenText.{token_text}
use Rattle.host_core.specs.Value.{Book}
use Rattle.host_core.specs.Single.{SeesItsOwn, sight_of}
use Rattle.host_server.specs.declared.desk.Desk.{Desk}
use Rattle.host_server.specs.Turns.{Answers}
use Rattle.wopi_http.specs.declared.message.Request as http
use Rattle.wopi_http.specs.Replies.{reply_text}
use Rattle.wopi_http.specs.RequestTexts.{request_text}
use Rattle.wopi_headers.specs.declared.answer.Answer.{Answer}
use Rattle.wopi_headers.specs.declared.answer.BodyKind.TheVariants as kind
use Rattle.wopi_headers.specs.declared.ask.Ask.{Ask}
use Rattle.wopi_headers.specs.Operations.{AsksFor}
use Rattle.wopi_headers.specs.Replies.{reply_of}
use Rattle.wopi_headers.specs.Requests.{request_of}
use Rattle.wopi_text.specs.declared.lock_field.LockField.TheVariants as field
use Rattle.save_session.specs.declared.input.Input.{Input}
use Rattle.save_session.specs.declared.input.Input.TheVariants.{NoAnswer}
use Rattle.wopi_world.specs.Requests.{input_of}
use Rattle.wopi_world.specs.World.{first_world, is_asked}
use Rattle.replay_cmd.specs.declared.member.Member.{Member}
use Rattle.replay_cmd.specs.declared.member.Request.{Request}
use Rattle.replay_cmd.specs.declared.replies.Reply.{Reply}
use Rattle.schedule_text.specs.declared.schedule.EventLine.{EventLine}
use Rattle.schedule_text.specs.declared.schedule.EventLine.TheVariants as line
use Rattle.schedule_text.specs.declared.schedule.ForeignAsk.{ForeignAsk}
use Rattle.replay_cmd.specs.declared.stage.Stage.{Stage}
use Rattle.replay_cmd.specs.declared.wire.Carried.{Carried}
use Rattle.replay_cmd.specs.declared.world.World.{World}
use Rattle.replay_cmd.specs.Exchanges.{Exchanges}
use Rattle.replay_cmd.specs.Members.{StepsIn}
use Rattle.replay_cmd.specs.Runs.{foreign_token, place_of, setting_of, wish_of}
use Rattle.schedule_text.specs.Schedules.{Lines}
use Rattle.replay_cmd.specs.Sessions.{given_as}
use Rattle.replay_cmd.specs.Starts.{Reopens}
use Rattle.replay_cmd.specs.Stages.{IsStageOf}
use Rattle.replay_cmd.specs.Wires.{AreRefused, BeginWith, GrewBy, IsAnswerIn, localhost}

-- the answer that says no more than its status
abbrev pub refused_as : ℕ → Answer
refused_as status = record { status = status; lock = field.Absent; reason = None; version = None; kind = kind.None; body = [] }

-- The host answers what came: the message that the bytes begin with, and, where that asks for an operation, just this one. Where they
-- begin with none, it does nothing, and the answer says no more than the status of their refusal.
pub record AnswersWhatCame {F : Type 0} (desk : Desk) (moment : ℕ) (old new : Book F) (got : List ℕ) (a : Answer) : Type 0 where
  pub answers : (q : http.Request) → BeginWith got q → Answers desk q moment SeesItsOwn (sight_of old) (sight_of new) (Ok a)
  pub asked : (q : http.Request) (ask : Ask) (body : List ℕ) → BeginWith got q → AsksFor q ask → q.body ≡ body → Exchanges desk ask body moment old new a
  pub none : ((q : http.Request) → BeginWith got q → ⊥) → (new ≡ old) × (a ≡ refused_as a.status) × AreRefused got a.status

-- these messages went over the wire, and what they did is told
pub record CarriesOver (old new : Option (List Carried)) (Told : List Carried → Type 0) : Type 0 where
  pub carried : List Carried
  pub grew : GrewBy old new carried
  pub told : Told carried

-- a reply to this request, with this answer, is kept behind the others
pub record AddsReply (request : Option ℕ) (a : Answer) (old new : Stage) : Type 0 where
  pub reply : Reply
  pub replies : new.replies.items ≡ old.replies.items ++ reply ∷ []
  pub request_is : reply.request ≡ request
  pub answer_is : reply.answer ≡ a

-- The text of what is asked went over the wire, and the host answered what came of it. All but the host and the replies stays.
pub record IsAsked (ask : Ask) (body : List ℕ) (moment : ℕ) (request : Option ℕ) (old new : Stage) (carried : List Carried) : Type 0 where
  pub got : List ℕ
  pub carried_is : carried ≡ record { given = request_text (request_of ask localhost body); got = got } ∷ []
  pub answer : Answer
  pub answers : AnswersWhatCame old.desk moment old.host.shard new.host.shard got answer
  pub adds : AddsReply request answer old new
  pub others : new ≡ record old { host = new.host; history = new.history; replies = new.replies }

-- what a session asks with a request, under its token
abbrev pub ask_by : Member → Request → Ask
ask_by member request = record { file = member.token.file; token = member.text; op = request.op }

-- the request at a place, and the session that sent it
pub record IsSent (stage : Stage) (place : ℕ) (request : Request) (member : Member) : Type 0 where
  pub request_is : slice_get stage.requests.items place ≡ Some request
  pub member_is : slice_get stage.members.items request.sender ≡ Some member

-- A request is delivered: where it is there, its text goes over the wire.
pub record Delivers (place moment : ℕ) (old new : Stage) (carried : List Carried) : Type 0 where
  pub sent : (request : Request) (member : Member) → IsSent old place request member → IsAsked (ask_by member request) request.body moment (Some place) old new carried
  pub none : ((request : Request) (member : Member) → IsSent old place request member → ⊥) → (carried ≡ []) × (new ≡ old)

-- Somebody else asks, by a token of its own.
abbrev pub AsksForeign : ℕ → ForeignAsk → Stage → Stage → List Carried → Type 0
AsksForeign moment ask old new carried =
    IsAsked (record { file = ask.file; token = token_text old.desk.keys (foreign_token old.desk.opened ask); op = ask.op }) ask.body moment None old new carried

-- The session at that place takes the input, where it is there. All but the sessions and their requests stays.
pub record TakesInput (place : ℕ) (given : Input) (old new : Stage) : Type 0 where
  pub steps : (member : Member) → slice_get old.members.items place ≡ Some member
      → (words : List (List ℕ)) × StepsIn old.members.items new.members.items old.requests.items new.requests.items place given words
  pub none : slice_get old.members.items place ≡ None → new ≡ old
  pub others : new ≡ record old { requests = new.requests; members = new.members }

-- the reply at a place, for which a session waits
pub record IsAwaited (stage : Stage) (place : ℕ) (reply : Reply) (asked : ℕ) (request : Request) (member : Member) : Type 0 where
  pub reply_is : slice_get stage.replies.items place ≡ Some reply
  pub asked_is : reply.request ≡ Some asked
  pub sent : IsSent stage asked request member
  pub waits : is_asked member.asked asked ≡ true

-- The text of a reply went over the wire, and the session took what came of it.
pub record IsTaken (reply : Reply) (session : ℕ) (old new : Stage) (carried : List Carried) : Type 0 where
  pub got : List ℕ
  pub carried_is : carried ≡ record { given = reply_text (reply_of reply.answer true); got = got } ∷ []
  pub found : Option Answer
  pub answers : IsAnswerIn got found
  pub takes : TakesInput session (given_as found) old new

-- A reply is handed to the session that waits for it: where one does, its text goes over the wire.
pub record HandsOver (place : ℕ) (old new : Stage) (carried : List Carried) : Type 0 where
  pub awaited : (reply : Reply) (asked : ℕ) (request : Request) (member : Member) → IsAwaited old place reply asked request member
      → IsTaken reply request.sender old new carried
  pub none : ((reply : Reply) (asked : ℕ) (request : Request) (member : Member) → IsAwaited old place reply asked request member → ⊥) → (carried ≡ []) × (new ≡ old)

-- the sessions, their requests and the replies to them stay, and so do the keys and the address of the host
pub record IsSameTalk (old new : Stage) : Type 0 where
  pub requests : new.requests ≡ old.requests
  pub replies : new.replies ≡ old.replies
  pub members : new.members ≡ old.members
  pub keys : new.desk.keys ≡ old.desk.keys
  pub base : new.desk.base ≡ old.desk.base

-- time goes on in the host
pub record GoesOn (moment : ℕ) (old new : Stage) : Type 0 where
  pub talk : IsSameTalk old new
  pub opened : new.desk.opened ≡ old.desk.opened
  pub shard : new.host.shard ≡ record old.host.shard { time = max old.host.shard.time moment; ticked = true }

-- the host opens anew at that moment
pub record OpensAnew (moment : ℕ) (old new : Stage) : Type 0 where
  pub talk : IsSameTalk old new
  pub opened : new.desk.opened ≡ moment
  pub first : ℕ
  pub reopens : Reopens old.host.shard moment first new.host.shard

-- what goes over the wire at a line
abbrev pub CarriesLine : EventLine → Stage → Stage → List Carried → Type 0
CarriesLine (line.Asks s wish) old new carried = (carried ≡ []) × TakesInput s (input_of (wish_of wish)) old new
CarriesLine (line.Deliver request moment) old new carried = Delivers (place_of request (length old.requests.items)) moment old new carried
CarriesLine (line.Answer reply) old new carried = HandsOver (place_of reply (length old.replies.items)) old new carried
CarriesLine (line.Lose s) old new carried = (carried ≡ []) × TakesInput s NoAnswer old new
CarriesLine (line.Ticks moment) old new carried = (carried ≡ []) × GoesOn moment old new
CarriesLine (line.Foreign moment ask) old new carried = AsksForeign moment ask old new carried
CarriesLine (line.Restarts moment) old new carried = (carried ≡ []) × OpensAnew moment old new

-- and at one line after another
abbrev pub CarriesLines : List EventLine → Stage → Stage → List Carried → Type 0
CarriesLines [] old new carried = (new ≡ old) × (carried ≡ [])
CarriesLines (line ∷ lines) old new carried =
    (mid : Stage) × (front : List Carried) × (rest : List Carried) × (carried ≡ front ++ rest) × CarriesLine line old mid front × CarriesLines lines mid new rest

-- what went over the wire in a run of the lines, from their first world on
pub record IsRunOver (lines : Lines) (kept : World) (carried : List Carried) : Type 0 where
  pub first : Stage
  pub first_is : IsStageOf (setting_of lines) first (first_world (setting_of lines))
  pub lines_are : CarriesLines lines.events first kept.stage carried
