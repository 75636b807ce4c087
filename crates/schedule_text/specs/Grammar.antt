-- How a schedule is written: each line has one spelling, but that 0 needn't be written as the moment at which a token was issued. (Own.)
use Rattle.std.specs.Prelude.{◌≡◌, All, ⊤, ℕ, ◌+◌, ◌-◌, ◌<◌, ◌≤◌, ◌^◌, Bool, false, not, List, [], ◌∷◌, ◌++◌, length, filter, take, codes, decimal, Option, None, Some, ◌==◌}
use Rattle.std.specs.List.{AllByRecursion}
use Rattle.hex.specs.Hex.{IsBytes}
use Rattle.wopi_text.specs.Ids.{id_of}
use Rattle.wopi_text.specs.FileName.{IsFileName}
use Rattle.wopi_model.specs.Moment.{IsMoment}
use Rattle.save_session.specs.Nonce.{IsNonce}
use Rattle.wopi_headers.specs.declared.ask.Op.{Op}
use Rattle.wopi_headers.specs.declared.ask.Op.TheVariants as op
use Rattle.wopi_headers.specs.declared.ask.Target.TheVariants.{Suggested, Relative}
use Rattle.schedule_text.specs.declared.schedule.FileLine.{FileLine}
use Rattle.schedule_text.specs.declared.schedule.SessionLine.{SessionLine}
use Rattle.schedule_text.specs.declared.schedule.Reference.{Reference}
use Rattle.schedule_text.specs.declared.schedule.Reference.TheVariants.{Number, Last}
use Rattle.schedule_text.specs.declared.schedule.Wish.{Wish}
use Rattle.schedule_text.specs.declared.schedule.Wish.TheVariants as wish
use Rattle.schedule_text.specs.declared.schedule.ForeignAsk.{ForeignAsk}
use Rattle.schedule_text.specs.declared.schedule.EventLine.{EventLine}
use Rattle.schedule_text.specs.declared.schedule.EventLine.TheVariants as line
use Rattle.schedule_text.specs.Schedules.{HasBody, HasTarget, Lines, IsSchedule, carried, most_contents}
pub use Rattle.line_text.specs.Words.{words_of, yes_or_no}
use Rattle.line_text.specs.Words.{hex_text, parts_at}

-- contents that a line can have
pub record IsContents (contents : List ℕ) : Type 0 where
  pub bytes : IsBytes contents
  pub short : length contents ≤ most_contents

-- the line tells of a file that stands there at the opening
pub record IsFileRow (row : List ℕ) (file : FileLine) : Type 0 where
  pub name : IsFileName file.name
  pub contents : IsContents file.contents
  pub words : words_of row ≡ codes "file" ∷ id_of file.name ∷ hex_text file.contents ∷ []

-- the words say when a token was issued: at that moment, or, where there are none, at 0
abbrev pub AreIssued : List (List ℕ) → ℕ → Type 0
AreIssued [] issued = issued ≡ 0
AreIssued (word ∷ []) issued = IsMoment issued × (word ≡ decimal issued)
AreIssued _ issued = ⊥

-- the line tells of a session
pub record IsSessionRow (row : List ℕ) (session : SessionLine) : Type 0 where
  pub file : IsFileName session.file
  pub nonce : IsNonce session.nonce
  pub expires : IsMoment session.expires
  pub last : List (List ℕ)
  pub issued : AreIssued last session.issued
  pub words : words_of row ≡ codes "session" ∷ id_of session.file ∷ session.nonce ∷ decimal session.expires ∷ last

-- a number from 1 that 64 bits hold
pub record IsCounted (number : ℕ) : Type 0 where
  pub counted : 0 < number
  pub fits : number < 2 ^ 64

-- a request or a reply: its number, or `^` and its number from the last
abbrev pub reference_word : Reference → List ℕ
reference_word (Number number) = decimal number
reference_word (Last number) = 94 ∷ decimal number

abbrev pub number_in : Reference → ℕ
number_in (Number number) = number
number_in (Last number) = number

abbrev pub IsReference : Reference → Type 0
IsReference reference = IsCounted (number_in reference)

-- what a session is asked for; sessions are counted from 1 in a line
abbrev pub IsWish : List (List ℕ) → ℕ → Wish → Type 0
IsWish words s wish.Start = words ≡ codes "open" ∷ decimal (s + 1) ∷ []
IsWish words s wish.Read = words ≡ codes "read" ∷ decimal (s + 1) ∷ []
IsWish words s (wish.Save contents) = IsContents contents × (words ≡ codes "save" ∷ decimal (s + 1) ∷ hex_text contents ∷ [])
IsWish words s wish.Refresh = words ≡ codes "refresh" ∷ decimal (s + 1) ∷ []
IsWish words s wish.Close = words ≡ codes "close" ∷ decimal (s + 1) ∷ []

-- an id of a lock that a line can have: visible bytes, and not just a dash
pub record IsLockWord (id : List ℕ) : Type 0 where
  pub some : 0 < length id
  pub short : length id ≤ 256
  pub visible : All (λ byte. (33 ≤ byte) × (byte ≤ 126)) id
  pub no_dash : id ≡ codes "-" → ⊥

-- the lock of a PutFile, or a dash where there is none
abbrev pub lock_word : Option (List ℕ) → List ℕ
lock_word None = codes "-"
lock_word (Some id) = id

abbrev pub IsLockOrNone : Option (List ℕ) → Type 0
IsLockOrNone None = ⊤
IsLockOrNone (Some id) = IsLockWord id

-- The words that ask for an operation on a file, with this body. The name of a copy is carried without the spaces at its front.
abbrev pub AreAsked : List (List ℕ) → List ℕ → List ℕ → Op → Type 0
AreAsked words file body op.Info = words ≡ codes "info" ∷ id_of file ∷ []
AreAsked words file body (op.Get most) = words ≡ codes "get" ∷ id_of file ∷ []
AreAsked words file body (op.Put lock) = IsLockOrNone lock × (words ≡ codes "put" ∷ id_of file ∷ lock_word lock ∷ hex_text body ∷ [])
AreAsked words file body (op.Lock id) = IsLockWord id × (words ≡ codes "lock" ∷ id_of file ∷ id ∷ [])
AreAsked words file body op.GetLock = words ≡ codes "getlock" ∷ id_of file ∷ []
AreAsked words file body (op.Refresh id) = IsLockWord id × (words ≡ codes "refresh" ∷ id_of file ∷ id ∷ [])
AreAsked words file body (op.Unlock id) = IsLockWord id × (words ≡ codes "unlock" ∷ id_of file ∷ id ∷ [])
AreAsked words file body (op.Relock old id) = IsLockWord old × IsLockWord id × (words ≡ codes "relock" ∷ id_of file ∷ old ∷ id ∷ [])
AreAsked words file body op.Delete = words ≡ codes "delete" ∷ id_of file ∷ []
AreAsked words file body (op.PutRelative (Relative found overwrite)) =
    (name : List ℕ) × IsFileName name × (found ≡ carried name) × (words ≡ codes "relative" ∷ id_of file ∷ id_of name ∷ yes_or_no overwrite ∷ hex_text body ∷ [])
AreAsked words file body (op.PutRelative (Suggested text)) = ⊥

-- what the words of an operation say of a request
pub record IsAsked (words : List (List ℕ)) (ask : ForeignAsk) : Type 0 where
  pub file : IsFileName ask.file
  pub contents : IsContents ask.body
  pub bodies : HasBody ask.op ask.body
  pub target : HasTarget ask.op ask.target
  pub asked : AreAsked words ask.file ask.body ask.op

-- the line tells of a request of somebody else
pub record IsForeignRow (row : List ℕ) (moment : ℕ) (ask : ForeignAsk) : Type 0 where
  pub moment_is : IsMoment moment
  pub expires : IsMoment ask.expires
  pub op : List (List ℕ)
  pub asked : IsAsked op ask
  pub words : words_of row ≡ codes "foreign" ∷ decimal moment ∷ decimal ask.expires ∷ op

-- the line tells of the event
abbrev pub IsEventRow : List ℕ → EventLine → Type 0
IsEventRow row (line.Asks s wish) = IsCounted (s + 1) × IsWish (words_of row) s wish
IsEventRow row (line.Deliver request moment) =
    IsReference request × IsMoment moment × (words_of row ≡ codes "deliver" ∷ reference_word request ∷ decimal moment ∷ [])
IsEventRow row (line.Answer reply) = IsReference reply × (words_of row ≡ codes "answer" ∷ reference_word reply ∷ [])
IsEventRow row (line.Lose s) = IsCounted (s + 1) × (words_of row ≡ codes "lose" ∷ decimal (s + 1) ∷ [])
IsEventRow row (line.Ticks moment) = IsMoment moment × (words_of row ≡ codes "tick" ∷ decimal moment ∷ [])
IsEventRow row (line.Foreign moment ask) = IsForeignRow row moment ask
IsEventRow row (line.Restarts moment) = IsMoment moment × (words_of row ≡ codes "restart" ∷ decimal moment ∷ [])

-- the lines stand for these, one for each
abbrev pub Each : {T : Type 0} → (List ℕ → T → Type 0) → List (List ℕ) → List T → Type 0
Each IsRow [] [] = ⊤
Each IsRow (row ∷ rows) (one ∷ rest) = IsRow row one × Each IsRow rows rest
Each IsRow _ _ = ⊥

-- an empty line, or one that begins with `#`, says nothing
abbrev pub says : List ℕ → Bool
says [] = false
says (byte ∷ bytes) = not (byte == 35)

-- a text has at most so many lines, those that say nothing among them
abbrev pub most_rows : ℕ
most_rows = 16000

-- the most bytes of a line, without its line feed
abbrev pub most_bytes : ℕ
most_bytes = 20000

-- the lines that say something are those of the files, then of the sessions, then of the events
pub record AreRows (rows : List (List ℕ)) (lines : Lines) : Type 0 where
  pub files : List (List ℕ)
  pub sessions : List (List ℕ)
  pub events : List (List ℕ)
  pub parts : filter says rows ≡ files ++ (sessions ++ events)
  pub file_rows : Each IsFileRow files lines.files
  pub session_rows : Each IsSessionRow sessions lines.sessions
  pub event_rows : Each IsEventRow events lines.events
  pub few : length rows ≤ most_rows
  pub short : AllByRecursion (λ row. length row ≤ most_bytes) rows
  pub form : IsSchedule lines

-- the lines of a text; a line feed ends each, but for the last, which may lack it
abbrev pub without_empty_end : List (List ℕ) → List (List ℕ)
without_empty_end [] = []
without_empty_end ([] ∷ []) = []
without_empty_end (row ∷ rows) = row ∷ without_empty_end rows

abbrev pub rows_of : List ℕ → List (List ℕ)
rows_of text = without_empty_end (parts_at 10 text)

-- the whole text is these lines
abbrev pub IsText : List ℕ → Lines → Type 0
IsText text lines = AreRows (rows_of text) lines

-- The line of that number, counted from 1, is the first bad one: the lines before it are a schedule, and with it they are none.
pub record IsBadLine (text : List ℕ) (number : ℕ) : Type 0 where
  pub there : (1 ≤ number) × (number ≤ length (rows_of text))
  pub good : (lines : Lines) × AreRows (take (number - 1) (rows_of text)) lines
  pub bad : (lines : Lines) → AreRows (take number (rows_of text)) lines → ⊥
