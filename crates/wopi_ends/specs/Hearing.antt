-- What a session hears of its client's exchanges, one after another.
use Rattle.std.specs.Prelude.{◌≡◌, ◌≢◌, ◌⊎◌, ⊤, ℕ, List, [], ◌∷◌, ◌++◌, map, None, Some, Result, Ok, Err}
use Rattle.std.specs.List.{Contains}
use Rattle.outside.specs.declared.dialer.Exchange.{Exchange}
use Rattle.save_session.specs.declared.input.Input.{Input}
use Rattle.save_session.specs.declared.input.Input.TheVariants.{Reply, NoAnswer}
use Rattle.save_session.specs.declared.output.Outcome.{Outcome}
use Rattle.save_session.specs.declared.output.Outcome.TheVariants as outcome
use Rattle.save_session.specs.declared.state.State.{State}
use Rattle.save_session.specs.Session.{op_of}
use Rattle.save_session.specs.Views.{nonce_of, state_of}
use Rattle.wopi_headers.specs.declared.answer.Answer.{Answer}
use Rattle.wopi_client.specs.declared.desktop.Desktop.{Desktop}
use Rattle.wopi_client.specs.declared.driving.DriveFault.{DriveFault}
use Rattle.wopi_client.specs.declared.driving.DriveFault.TheVariants as drive
use Rattle.wopi_client.specs.Asking.{request_bytes, TellsAnswer, IsBadAnswer}
use Rattle.wopi_client.specs.Copies.{copy_under}
use Rattle.grid_sheet.specs.declared.fault.GridFault.TheVariants.{TooMany}
use Rattle.grid_editor.specs.declared.command.Command.{Command}
use Rattle.grid_editor.specs.declared.command.Command.TheVariants as command
use Rattle.grid_editor.specs.declared.editor.Editor.{Editor}
use Rattle.grid_editor.specs.declared.turns.EditFault.{EditFault}
use Rattle.grid_editor.specs.declared.turns.EditFault.TheVariants as edit
use Rattle.grid_editor.specs.declared.turns.Went.{Went}
use Rattle.grid_editor.specs.declared.turns.Went.TheVariants.{On}
use Rattle.grid_editor.specs.Lines.{outcome_line, opened_line, refusal_line, not_open}
use Rattle.grid_editor.specs.Runs.{Commands}
use Rattle.wopi_world.specs.Requests.{Client, Sent, operation}
use Rattle.wopi_world.specs.World.{Told}
use Rattle.wopi_world.specs.Talks.{Speaker, Awaits, IsNoReply, hears, hears_all}
use Rattle.wopi_ends.specs.Messages.{bytes_of}

-- An exchange of a client: for that request of its session, or for a copy, of which the session hears nothing.
pub data Spoken : Type 0 where
  own : (sent : Sent) (exchange : Exchange) → Spoken
  aside : (exchange : Exchange) → Spoken

abbrev pub exchange_of : Spoken → Exchange
exchange_of (own sent exchange) = exchange
exchange_of (aside exchange) = exchange

abbrev pub exchanges_of : List Spoken → List Exchange
exchanges_of spoken = map exchange_of spoken

-- the session sent the request and waits for its answer, and the exchange has its bytes
pub record IsAsked (desktop : Desktop) (client : Client) (speaker : Speaker) (sent : Sent) (exchange : Exchange) : Type 0 where
  pub awaits : Awaits speaker sent
  pub was_sent : Contains speaker.sent sent
  pub bytes : exchange.request ≡ bytes_of desktop client sent

-- How a hearing ends: behind all exchanges; with a reply whose bytes tell no answer at this place; or where memory was wanting, for a request
-- or for the answer of a reply. Nothing follows where it doesn't end behind all.
pub data Ending : Type 0 where
  behind_all : Ending
  at_bad : (at : ℕ) → Ending
  at_want : Ending

-- Each exchange is heard in its order, but for the last one where the hearing ends so.
pub data Hears (desktop : Desktop) (client : Client) : Ending → Speaker → List Spoken → List Input → Type 0 where
  over : (speaker : Speaker) → Hears desktop client behind_all speaker [] []
  -- the session is asked for something, or told that no answer will come
  prompted : (ending : Ending) (speaker : Speaker) (input : Input) (spoken : List Spoken) (heard : List Input)
      → IsNoReply input → Hears desktop client ending (hears client speaker input) spoken heard → Hears desktop client ending speaker spoken (input ∷ heard)
  answered : (ending : Ending) (speaker : Speaker) (sent : Sent) (exchange : Exchange) (reply : List ℕ) (answer : Answer) (spoken : List Spoken) (heard : List Input)
      → IsAsked desktop client speaker sent exchange → exchange.reply ≡ Some reply → TellsAnswer (op_of client.nonce (operation sent)) reply answer
      → Hears desktop client ending (hears client speaker (Reply answer)) spoken heard → Hears desktop client ending speaker (own sent exchange ∷ spoken) (Reply answer ∷ heard)
  -- no reply came
  lost : (ending : Ending) (speaker : Speaker) (sent : Sent) (exchange : Exchange) (spoken : List Spoken) (heard : List Input)
      → IsAsked desktop client speaker sent exchange → exchange.reply ≡ None
      → Hears desktop client ending (hears client speaker NoAnswer) spoken heard → Hears desktop client ending speaker (own sent exchange ∷ spoken) (NoAnswer ∷ heard)
  -- the bytes of the last reply tell no answer to the request
  bad : (speaker : Speaker) (sent : Sent) (exchange : Exchange) (reply : List ℕ) (at : ℕ)
      → IsAsked desktop client speaker sent exchange → exchange.reply ≡ Some reply → IsBadAnswer (op_of client.nonce (operation sent)) reply at
      → Hears desktop client (at_bad at) speaker (own sent exchange ∷ []) []
  -- memory for the answer of the last reply was wanting
  unread : (speaker : Speaker) (sent : Sent) (exchange : Exchange) (reply : List ℕ)
      → IsAsked desktop client speaker sent exchange → exchange.reply ≡ Some reply → Hears desktop client at_want speaker (own sent exchange ∷ []) []
  -- memory for a request was wanting
  unsent : (speaker : Speaker) → Hears desktop client at_want speaker [] []
  copied : (ending : Ending) (speaker : Speaker) (name text : List ℕ) (exchange : Exchange) (spoken : List Spoken) (heard : List Input)
      → exchange.request ≡ request_bytes desktop (copy_under name) text → Hears desktop client ending speaker spoken heard
      → Hears desktop client ending speaker (aside exchange ∷ spoken) heard

-- what a session heard of these exchanges, and what it told meanwhile
pub record HasHeard (desktop : Desktop) (client : Client) (ending : Ending) (speaker : Speaker) (exchanges : List Exchange) (told : List Told) : Type 0 where
  pub spoken : List Spoken
  pub heard : List Input
  pub heard_is : Hears desktop client ending speaker spoken heard
  pub exchanges_are : exchanges_of spoken ≡ exchanges
  pub told_is : (hears_all client speaker heard).told ≡ speaker.told ++ told

-- the reply of the exchange, if one came, tells an answer that was heard
abbrev pub IsReplyHeard : Client → List Input → Spoken → Type 0
IsReplyHeard client heard (own sent exchange) =
    (reply : List ℕ) → exchange.reply ≡ Some reply → (answer : Answer) × Contains heard (Reply answer) × TellsAnswer (op_of client.nonce (operation sent)) reply answer
IsReplyHeard client heard (aside exchange) = ⊤

-- how the hearing of a talk or of a drive ends, by its result
abbrev pub ending_of : Result Outcome DriveFault → Ending
ending_of (Ok outcome) = behind_all
ending_of (Err (drive.Ignored other)) = behind_all
ending_of (Err (drive.BadReply at)) = at_bad at
ending_of (Err drive.Memory) = at_want

-- what is told where a talk ends so: just that outcome, and nothing where a fault ends it
abbrev pub TellsAtEnd : Result Outcome DriveFault → List Told → Type 0
TellsAtEnd (Ok outcome) told = (one : Told) × (one.outcome ≡ outcome) × (told ≡ one ∷ [])
TellsAtEnd (Err why) told = told ≡ []

-- a talk, as the session hears it
pub record IsTalkHeard (desktop : Desktop) (client : Client) (speaker : Speaker) (exchanges : List Exchange) (left : State) (result : Result Outcome DriveFault) : Type 0 where
  pub told : List Told
  pub has : HasHeard desktop client (ending_of result) speaker exchanges told
  pub session_is : (hears_all client speaker has.heard).session ≡ left
  pub at_end : TellsAtEnd result told

-- a drive, as the session hears it; a request that still waited may be taken to an outcome of its own first
pub record IsDriveHeard (desktop : Desktop) (client : Client) (speaker : Speaker) (exchanges : List Exchange) (left : State) (result : Result Outcome DriveFault) : Type 0 where
  pub before : List Told
  pub last : List Told
  pub has : HasHeard desktop client (ending_of result) speaker exchanges (before ++ last)
  pub session_is : (hears_all client speaker has.heard).session ≡ left
  pub at_end : TellsAtEnd result last

-- the line of an outcome, as an editor writes it
abbrev pub IsLineOf : Outcome → List ℕ → Type 0
IsLineOf (outcome.Opened version) line = ((rows : ℕ) × (line ≡ opened_line version rows)) ⊎ (line ≡ refusal_line TooMany)
IsLineOf told line = line ≡ outcome_line told

-- the line is that of the outcome which the session told last, or says that nothing was open
abbrev pub LineTells : List ℕ → List Told → Type 0
LineTells line told = ((before : List Told) × (one : Told) × (told ≡ before ++ one ∷ []) × IsLineOf one.outcome line) ⊎ (line ≡ not_open)

-- the line of a command, and what the session told meanwhile
abbrev pub CommandTells : Command → List ℕ → List Told → Type 0
CommandTells command.Open line told = LineTells line told
CommandTells command.Save line told = LineTells line told
CommandTells command.Refresh line told = LineTells line told
CommandTells command.Close line told = LineTells line told
CommandTells _ line told = told ≡ []

-- How the hearing of a script, or of one command of it, ends by how that ended. All was heard where it ended well or with a fault of writing;
-- a bad reply that ends it is the session's last one, or a copy's; and behind want of memory nothing more was exchanged.
abbrev pub IsEnding : {T : Type 0} → Result T EditFault → Ending → Type 0
IsEnding (Ok done) ending = ending ≡ behind_all
IsEnding (Err edit.WriteFault) ending = ending ≡ behind_all
IsEnding (Err (edit.BadReply at)) ending = (ending ≡ at_bad at) ⊎ (ending ≡ behind_all)
IsEnding (Err edit.Memory) ending = ⊤

-- what was written tells what the session told: the line of the command, a front of it behind a fault of writing, and else nothing
abbrev pub WrittenTells : Command → Result Went EditFault → List ℕ → List Told → Type 0
WrittenTells asked (Ok went) written told = CommandTells asked written told
WrittenTells asked (Err edit.WriteFault) written told = (rest : List ℕ) × CommandTells asked (written ++ rest) told
WrittenTells asked (Err why) written told = written ≡ []

-- A command that an editor did, as its session hears it: what it heard of the exchanges of just this command, and what it told meanwhile,
-- which the command's line tells.
pub record IsCommandHeard (desktop : Desktop) (client : Client) (speaker : Speaker) (old : Editor) (asked : Command) (new : Editor) (result : Result Went EditFault)
    (written : List ℕ) (exchanges : List Exchange) : Type 0 where
  pub did : Commands old asked new result written exchanges
  pub told : List Told
  pub ending : Ending
  pub ended : IsEnding result ending
  pub has : HasHeard desktop client ending speaker exchanges told
  pub tells : WrittenTells asked result written told

-- The commands of a script, one after another, each with its line and its exchanges, until one of them ended the script; and what the session
-- heard and told meanwhile.
pub data LinesTell (desktop : Desktop) (client : Client) : Speaker → Editor → List Command → Editor → Result Went EditFault → List ℕ → List Exchange → List Spoken → List Input
    → List Told → Type 0 where
  none : (speaker : Speaker) (editor : Editor) → LinesTell desktop client speaker editor [] editor (Ok On) [] [] [] [] []
  line : (speaker : Speaker) (old mid new : Editor) (asked : Command) (later : List Command) (result : Result Went EditFault) (first second : List ℕ) (sent more : List Exchange)
      (spoken : List Spoken) (heard : List Input) (told : List Told) (command : IsCommandHeard desktop client speaker old asked mid (Ok On) first sent)
      → LinesTell desktop client (hears_all client speaker command.has.heard) mid later new result second more spoken heard told
      → LinesTell desktop client speaker old (asked ∷ later) new result (first ++ second) (sent ++ more) (command.has.spoken ++ spoken) (command.has.heard ++ heard)
      (command.told ++ told)
  last : (speaker : Speaker) (old new : Editor) (asked : Command) (later : List Command) (result : Result Went EditFault) (written : List ℕ) (sent : List Exchange)
      (command : IsCommandHeard desktop client speaker old asked new result written sent) → result ≢ Ok On
      → LinesTell desktop client speaker old (asked ∷ later) new result written sent command.has.spoken command.has.heard command.told

-- the editor's session is this client's at this desktop, in the state in which the speaker is
pub record IsEditorOf (desktop : Desktop) (client : Client) (speaker : Speaker) (editor : Editor) : Type 0 where
  pub desktop_is : editor.desktop ≡ desktop
  pub nonce : nonce_of editor.session ≡ client.nonce
  pub state : speaker.session ≡ state_of editor.session

-- an editor's script, as its session hears it: what it heard of all exchanges, which lines tell what it told, and the editor then
pub record IsScriptHeard (desktop : Desktop) (client : Client) (speaker : Speaker) (old : Editor) (asked : List Command) (new : Editor) (result : Result Went EditFault)
    (written : List ℕ) (exchanges : List Exchange) : Type 0 where
  pub told : List Told
  pub ending : Ending
  pub ended : IsEnding result ending
  pub has : HasHeard desktop client ending speaker exchanges told
  pub lines : LinesTell desktop client speaker old asked new result written exchanges has.spoken has.heard told
  pub editor : IsEditorOf desktop client (hears_all client speaker has.heard) new
