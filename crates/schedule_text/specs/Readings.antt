-- What the reader of a schedule has found. (Own.)
use Rattle.std.specs.Prelude.{◌≡◌, ◌⊎◌, ◌↔◌, ⊤, ℕ, ◌+◌, ◌<◌, ◌≤◌, Bool, true, false, List, [], ◌∷◌, ◌++◌, length, map, Some, String}
use Rattle.std.specs.List.{list_any, slice_get}
use Rattle.save_session.specs.LockIds.{BeginsWith}
use Rattle.std.specs.Str.{bytes_eq}
use Rattle.std.specs.BTreeSet.{BTreeSet, contains_text}
use Rattle.wopi_acts.specs.Acts.{act_with}
use Rattle.schedule_text.specs.declared.schedule.FileLine.{FileLine}
use Rattle.schedule_text.specs.declared.schedule.SessionLine.{SessionLine}
use Rattle.schedule_text.specs.declared.schedule.ForeignAsk.{ForeignAsk}
use Rattle.schedule_text.specs.declared.schedule.EventLine.{EventLine}
use Rattle.schedule_text.specs.declared.schedule.EventLine.TheVariants as line
use Rattle.schedule_text.specs.declared.one_line.AnyLine.{AnyLine}
use Rattle.schedule_text.specs.declared.one_line.AnyLine.TheVariants.{File, Session, Event}
use Rattle.schedule_text.specs.declared.reading.Reader.{Reader}
use Rattle.schedule_text.specs.Schedules.{IsOfNobody, IsRestart, Lines}
use Rattle.schedule_text.specs.Grammar.{AreRows, IsAsked, IsEventRow, IsFileRow, IsSessionRow, most_bytes, most_rows, rows_of, says, words_of}

-- the text asks for this, by a token that expires at that moment
abbrev pub Asks : List ℕ → ℕ → ForeignAsk → Type 0
Asks text expires ask = IsAsked (words_of text) ask × (ask.expires ≡ expires)

-- the line tells of this
abbrev pub IsLine : List ℕ → AnyLine → Type 0
IsLine row (File file) = IsFileRow row file
IsLine row (Session session) = IsSessionRow row session
IsLine row (Event event) = IsEventRow row event

-- the text is among these
abbrev pub is_among : List (List ℕ) → List ℕ → Bool
is_among texts text = list_any (λ other. bytes_eq other text) texts

abbrev pub names_of : List FileLine → List (List ℕ)
names_of files = map (λ file. file.name) files

-- a session has this nonce
abbrev pub HasNonce : List SessionLine → List ℕ → Type 0
HasNonce sessions nonce = (s : ℕ) × (session : SessionLine) × (slice_get sessions s ≡ Some session) × (session.nonce ≡ nonce)

abbrev pub BeginsWithDash : List ℕ → Type 0
BeginsWithDash text = (rest : List ℕ) × (text ≡ 45 ∷ rest)

-- the id could be one of a session
abbrev pub IsOfSession : List SessionLine → List ℕ → Type 0
IsOfSession sessions id = (s : ℕ) × (session : SessionLine) × (slice_get sessions s ≡ Some session) × BeginsWith session.nonce id

-- the event's session is there, no id of a session is presented by somebody else, and a restart can come behind these events
abbrev pub Suits : List SessionLine → List EventLine → EventLine → Type 0
Suits sessions events (line.Asks s wish) = s < length sessions
Suits sessions events (line.Lose s) = s < length sessions
Suits sessions events (line.Foreign moment ask) = IsOfNobody sessions (act_with ask.body ask.op)
Suits sessions events (line.Restarts moment) = IsRestart sessions events moment
Suits sessions events _ = ⊤

-- files come first, then sessions, then events
abbrev pub IsInOrder : Lines → AnyLine → Type 0
IsInOrder lines (File file) = (lines.sessions ≡ []) × (lines.events ≡ [])
IsInOrder lines (Session session) = lines.events ≡ []
IsInOrder lines (Event event) = ⊤

-- the line can stand behind these
abbrev pub Fits : Lines → AnyLine → Type 0
Fits lines (File file) = (lines.sessions ≡ []) × (lines.events ≡ []) × (is_among (names_of lines.files) file.name ≡ false)
Fits lines (Session session) = (lines.events ≡ []) × (length lines.sessions < 64) × (HasNonce lines.sessions session.nonce → ⊥)
Fits lines (Event event) = Suits lines.sessions lines.events event

-- the lines with one more
abbrev pub with_line : Lines → AnyLine → Lines
with_line lines (File file) = record { files = lines.files ++ file ∷ []; sessions = lines.sessions; events = lines.events }
with_line lines (Session session) = record { files = lines.files; sessions = lines.sessions ++ session ∷ []; events = lines.events }
with_line lines (Event event) = record { files = lines.files; sessions = lines.sessions; events = lines.events ++ event ∷ [] }

-- the lines that a reader has
abbrev pub lines_in : Reader → Lines
lines_in reader = record { files = reader.files.items; sessions = reader.sessions.items; events = reader.events.items }

-- the set has the names of these files
abbrev pub HasNames : {Y : Type 0} → BTreeSet (String Y) → List FileLine → Type 0
HasNames names files = (name : List ℕ) → contains_text names name ≡ is_among (names_of files) name

-- a restart can come behind these events where it is later than that moment, and only there
abbrev pub HasLatest : List SessionLine → List EventLine → ℕ → Type 0
HasLatest sessions events latest = (moment : ℕ) → (latest < moment) ↔ IsRestart sessions events moment

-- what the reader keeps beside its lines is theirs
pub record IsKept (reader : Reader) : Type 0 where
  pub names_are : HasNames reader.names reader.files.items
  pub latest_is : HasLatest reader.sessions.items reader.events.items reader.latest

-- the line was added
pub record IsAdded (line : AnyLine) (old new : Reader) : Type 0 where
  pub fits : Fits (lines_in old) line
  pub lines : lines_in new ≡ with_line (lines_in old) line
  pub kept : IsKept new
  pub rows : new.rows ≡ old.rows

-- the next line of a text, which is good, was taken
pub record TakesLine (row : List ℕ) (old new : Reader) : Type 0 where
  pub within : old.rows < most_rows
  pub short : length row ≤ most_bytes
  pub rows : new.rows ≡ old.rows + 1
  pub kept : IsKept new
  pub lines : ((says row ≡ false) × (lines_in new ≡ lines_in old))
      ⊎ ((says row ≡ true) × (line : AnyLine) × IsLine row line × Fits (lines_in old) line × (lines_in new ≡ with_line (lines_in old) line))

-- the next line is bad: past a limit, or one that says something that can't stand here
abbrev pub IsRefused : List ℕ → Reader → Type 0
IsRefused row old =
    (most_rows ≤ old.rows) ⊎ ((most_bytes < length row) ⊎ ((says row ≡ true) × ((line : AnyLine) → IsLine row line → Fits (lines_in old) line → ⊥)))

-- the rows that were read are those of the lines that the reader has
pub record IsSoFar (text rest : List ℕ) (reader : Reader) : Type 0 where
  pub done : List (List ℕ)
  pub splits : rows_of text ≡ done ++ rows_of rest
  pub good : AreRows done (lines_in reader)
  pub count : reader.rows ≡ length done
  pub kept : IsKept reader
