-- What a schedule is: the files and the sessions at the opening, and the events. (Own.)
use Rattle.std.specs.Prelude.{◌==◌, if◌then◌else◌, ◌≡◌, ⊤, ℕ, ◌<◌, ◌≤◌, ◌+◌, List, [], ◌∷◌, ◌++◌, length, map, Option, None, Some, IfSome, IsSome, ◌↔◌, true}
use Rattle.std.specs.List.{AllByRecursion, slice_get}
use Rattle.outside.specs.Folder.{all_differ}
use Rattle.wopi_text.specs.FileName.{IsFileName}
use Rattle.wopi_model.specs.Moment.{IsMoment}
use Rattle.wopi_model.specs.declared.calls.Act.{Act}
use Rattle.wopi_model.specs.Safety.{Presents}
use Rattle.wopi_headers.specs.declared.ask.Op.{Op}
use Rattle.wopi_headers.specs.declared.ask.Op.TheVariants.{Get, Put, PutRelative}
use Rattle.wopi_headers.specs.declared.ask.Target.TheVariants.{Suggested, Relative}
use Rattle.save_session.specs.LockIds.{BeginsWith}
use Rattle.save_session.specs.Nonce.{IsNonce}
use Rattle.wopi_acts.specs.Acts.{act_with}
use Rattle.schedule_text.specs.declared.schedule.FileLine.{FileLine}
use Rattle.schedule_text.specs.declared.schedule.SessionLine.{SessionLine}
use Rattle.schedule_text.specs.declared.schedule.Wish.{Wish}
use Rattle.schedule_text.specs.declared.schedule.Wish.TheVariants as wish
use Rattle.schedule_text.specs.declared.schedule.ForeignAsk.{ForeignAsk}
use Rattle.schedule_text.specs.declared.schedule.EventLine.{EventLine}
use Rattle.schedule_text.specs.declared.schedule.EventLine.TheVariants as line

-- a name as the value of a header: without the spaces at its front
abbrev pub carried : List ℕ → List ℕ
carried [] = []
carried (byte ∷ bytes) = if byte == 32 then carried bytes else byte ∷ bytes

-- a copy is asked for by just its name, and the target is that name where a file can have it; nothing else has a target
abbrev pub HasTarget : Op → Option (List ℕ) → Type 0
HasTarget (PutRelative (Relative name overwrite)) target = (IsSome target ↔ IsFileName name) × IfSome target (λ one. one ≡ name)
HasTarget (PutRelative (Suggested text)) target = ⊥
HasTarget _ target = target ≡ None

-- no id that the act presents begins with the nonce of a session
abbrev pub IsOfNobody : List SessionLine → Act → Type 0
IsOfNobody sessions asked =
    (s : ℕ) (session : SessionLine) (id : List ℕ) → slice_get sessions s ≡ Some session → Presents asked id → BeginsWith session.nonce id → ⊥

-- the longest contents of a line
abbrev pub most_contents : ℕ
most_contents = 8192

-- the most lines
abbrev pub most_lines : ℕ
most_lines = 16000

-- only a PutFile and a copy bring contents, and a read asks for no size
abbrev pub HasBody : Op → List ℕ → Type 0
HasBody (Put lock) body = ⊤
HasBody (PutRelative target) body = ⊤
HasBody (Get most) body = (most ≡ None) × (body ≡ [])
HasBody _ body = body ≡ []

pub record IsForeign (sessions : List SessionLine) (ask : ForeignAsk) : Type 0 where
  pub expires : IsMoment ask.expires
  pub short : length ask.body ≤ most_contents
  pub target : HasTarget ask.op ask.target
  pub bodies : HasBody ask.op ask.body
  pub others : IsOfNobody sessions (act_with ask.body ask.op)

-- the contents that a session is to save are no longer than a line's
abbrev pub IsShortWish : Wish → Type 0
IsShortWish (wish.Save contents) = length contents ≤ most_contents
IsShortWish _ = ⊤

-- an event can be carried out: its moments are moments, its target is what it asks for, and its contents are no longer than a line's
abbrev pub IsEventLine : EventLine → Type 0
IsEventLine (line.Asks s wish) = IsShortWish wish
IsEventLine (line.Deliver request moment) = IsMoment moment
IsEventLine (line.Answer reply) = ⊤
IsEventLine (line.Lose s) = ⊤
IsEventLine (line.Ticks moment) = IsMoment moment
IsEventLine (line.Restarts moment) = IsMoment moment
IsEventLine (line.Foreign moment ask) = IsMoment moment × IsMoment ask.expires × HasTarget ask.op ask.target × (length ask.body ≤ most_contents)

abbrev pub IsEvent : List SessionLine → EventLine → Type 0
IsEvent sessions (line.Asks s wish) = (s < length sessions) × IsShortWish wish
IsEvent sessions (line.Deliver request moment) = IsMoment moment
IsEvent sessions (line.Answer reply) = ⊤
IsEvent sessions (line.Lose s) = s < length sessions
IsEvent sessions (line.Ticks moment) = IsMoment moment
IsEvent sessions (line.Restarts moment) = IsMoment moment
IsEvent sessions (line.Foreign moment ask) = IsMoment moment × IsForeign sessions ask

-- what the event's line tells of is before that moment: its own moment, or the one at which the token of its session was issued
abbrev pub IsBefore : List SessionLine → ℕ → EventLine → Type 0
IsBefore sessions later (line.Asks s wish) = IfSome (slice_get sessions s) (λ session. session.issued < later)
IsBefore sessions later (line.Deliver request moment) = moment < later
IsBefore sessions later (line.Answer reply) = ⊤
IsBefore sessions later (line.Lose s) = IfSome (slice_get sessions s) (λ session. session.issued < later)
IsBefore sessions later (line.Ticks moment) = moment < later
IsBefore sessions later (line.Foreign moment ask) = moment < later
IsBefore sessions later (line.Restarts moment) = moment < later

-- a restart at that moment can come behind these events: the host opened before it, and all that they tell of is before it
pub record IsRestart (sessions : List SessionLine) (events : List EventLine) (moment : ℕ) : Type 0 where
  pub opened : 0 < moment
  pub earlier : AllByRecursion (IsBefore sessions moment) events

-- each restart among the events can come behind those before it
abbrev pub AreRestarts : List SessionLine → List EventLine → Type 0
AreRestarts sessions events =
    (front behind : List EventLine) (moment : ℕ) → events ≡ front ++ line.Restarts moment ∷ behind → IsRestart sessions front moment

-- the lines of a schedule, by their kinds
pub record Lines : Type 0 where
  pub files : List FileLine
  pub sessions : List SessionLine
  pub events : List EventLine

-- The names of the files differ, and so do the nonces; each event names a session that is there, no id of a session is
-- presented by somebody else, no contents are longer than a line's, and each restart can come behind the events before it.
pub record IsSchedule (lines : Lines) : Type 0 where
  pub files_differ : all_differ (map (λ file. file.name) lines.files) ≡ true
  pub nonces_differ : all_differ (map (λ session. session.nonce) lines.sessions) ≡ true
  pub names : AllByRecursion (λ file. IsFileName file.name) lines.files
  pub contents : AllByRecursion (λ file. length file.contents ≤ most_contents) lines.files
  pub nonces : AllByRecursion (λ session. IsNonce session.nonce) lines.sessions
  pub few_sessions : length lines.sessions ≤ 64
  pub few_lines : length lines.files + length lines.sessions + length lines.events ≤ most_lines
  pub tokens : AllByRecursion (λ session. IsMoment session.expires × IsMoment session.issued) lines.sessions
  pub each : AllByRecursion (IsEvent lines.sessions) lines.events
  pub restarts : AreRestarts lines.sessions lines.events
