-- The lines of a segment, and what one after another tells. (Own.)
use Rattle.std.specs.Prelude.{◌≡◌, ◌⊎◌, ⊤, ℕ, ◌<◌, ◌≤◌, false, List, [], ◌∷◌, ◌++◌, length, Option, None, Some, codes, decimal}
use Rattle.std.specs.List.{flat_map}
use Rattle.std.specs.Str.{bytes_eq}
use Rattle.wopi_text.specs.FileName.{IsFileName, shard_of}
use Rattle.wopi_text.specs.Ids.{id_of}
use Rattle.wopi_text.specs.LockId.{IsLockId}
use Rattle.wopi_model.specs.Moment.{IsMoment}
use Rattle.wopi_model.specs.declared.locks.Lock.{Lock}
use Rattle.wopi_model.specs.declared.locks.Spent.{Spent}
use Rattle.host_core.specs.Opening.{IsFirstVersion}
use Rattle.host_core.specs.declared.life.LifeContents.{LifeContents}
use Rattle.host_core.specs.declared.life.LifeContents.TheVariants as has
use Rattle.host_table.specs.Text.{hex_text, optional_number}
use Rattle.journal_text.specs.declared.text.Line.{Line}
use Rattle.wopi_model.specs.Begin.{at_name, put_name}
use Rattle.journal_text.specs.Lines.{Fits, IsBare, MayFit, told_size}
use Rattle.journal_text.specs.Words.{IsRow, bare_words}
use Rattle.journal_text.specs.Journals.{row_text}
use Rattle.journal_segments.specs.Places.{place_in}
use Rattle.journal_segments.specs.Told.{Placed, Told, told_as, told_line, unmet}
use Rattle.journal_segments.specs.Line.{contents_text, holds_words, off_words, size_in}
use Rattle.journal_segments.specs.declared.rows.Head.{Head}
use Rattle.journal_segments.specs.declared.rows.Row.{Row}
use Rattle.journal_segments.specs.declared.rows.Row.TheVariants as row
use Rattle.journal_segments.specs.declared.state.Pending.{Pending}
use Rattle.journal_segments.specs.declared.state.Pending.TheVariants as pending
use Rattle.journal_segments.specs.declared.state.State.{State}

-- ---- words

abbrev pub now_words : ℕ → ℕ → List (List ℕ)
now_words now last = codes "now" ∷ decimal now ∷ codes "last" ∷ decimal last ∷ []

abbrev pub opened_words : ℕ → ℕ → List (List ℕ) → List (List ℕ)
opened_words opened first words = codes "opened" ∷ decimal opened ∷ codes "first" ∷ decimal first ∷ words

abbrev pub shard_words : ℕ → List (List ℕ) → List (List ℕ)
shard_words shard words = codes "wopi" ∷ codes "journal" ∷ codes "3" ∷ codes "shard" ∷ decimal shard ∷ words

abbrev pub head_words : Head → List (List ℕ)
head_words head = shard_words head.shard (opened_words head.opened head.first (now_words head.now head.last))

-- a file that was met: its version, and its size, if it is there
abbrev pub at_words : List ℕ → ℕ → Option ℕ → List (List ℕ)
at_words name version size = codes "at" ∷ id_of name ∷ (118 ∷ decimal version) ∷ optional_number size ∷ []

abbrev pub lock_words : Lock → List (List ℕ)
lock_words lock = hex_text lock.id ∷ decimal lock.since ∷ decimal lock.until ∷ []

abbrev pub held_words : List ℕ → Lock → List (List ℕ)
held_words name lock = codes "held" ∷ id_of name ∷ lock_words lock

abbrev pub spent_words : List ℕ → Spent → List (List ℕ)
spent_words name one = codes "spent" ∷ id_of name ∷ hex_text one.id ∷ decimal one.until ∷ []

abbrev pub row_words : Row → List (List ℕ)
row_words (row.At name version size) = at_words name version size
row_words (row.Held name lock) = held_words name lock
row_words (row.Spent name one) = spent_words name one
row_words (row.Entry line) = bare_words line
row_words row.Off = off_words
row_words (row.Holds name contents) = holds_words name (size_in contents)

-- the contents that stand behind a line
abbrev pub contents_of : Row → Option (List ℕ)
contents_of (row.Entry line) = line.contents
contents_of (row.Holds name contents) = contents
contents_of _ = None

abbrev pub text_of : Row → List ℕ
text_of one = row_text (row_words one) ++ contents_text (contents_of one)

abbrev pub rows_text : List Row → List ℕ
rows_text rows = flat_map text_of rows

-- ---- a line, before its contents have come

abbrev pub with_contents : Line → Option (List ℕ) → Line
with_contents line contents = record line { contents = contents }

abbrev pub filled : Row → Option (List ℕ) → Row
filled (row.Entry line) contents = row.Entry (with_contents line contents)
filled (row.Holds name other) contents = row.Holds name contents
filled one contents = one

abbrev pub bare : Row → Row
bare one = filled one None

-- what it says of contents that have that size
abbrev pub words_with : Row → Option ℕ → List (List ℕ)
words_with (row.Holds name contents) size = holds_words name size
words_with one size = row_words one

-- ---- what a line may tell by itself

pub record IsHead (head : Head) : Type 0 where
  pub shard_is : head.shard < 16
  pub opened_is : IsMoment head.opened
  pub first_is : IsFirstVersion head.first
  pub now_is : IsMoment head.now
  pub last_is : Fits head.last

abbrev pub IsAt : List ℕ → ℕ → Option ℕ → Type 0
IsAt name version size = IsFileName name × Fits version × MayFit size

abbrev pub IsLock : Lock → Type 0
IsLock lock = IsLockId lock.id × IsMoment lock.since × Fits lock.until

abbrev pub IsHeld : List ℕ → Lock → Type 0
IsHeld name lock = IsFileName name × IsLock lock

abbrev pub IsSpent : List ℕ → Spent → Type 0
IsSpent name one = IsFileName name × IsLockId one.id × Fits one.until

-- a line that tells contents of that size, which haven't come
abbrev pub IsLine : Row → Option ℕ → Type 0
IsLine (row.At name version met) size = IsAt name version met × (size ≡ None)
IsLine (row.Held name lock) size = IsHeld name lock × (size ≡ None)
IsLine (row.Spent name one) size = IsSpent name one × (size ≡ None)
IsLine (row.Entry line) size = IsBare line × (size ≡ told_size line.act line.status)
IsLine row.Off size = size ≡ None
IsLine (row.Holds name contents) size = IsFileName name × MayFit size × (contents ≡ None)

-- what a line and its contents may tell by themselves
abbrev pub IsForm : Row → Type 0
IsForm one = IsLine (bare one) (size_in (contents_of one))

-- ---- what lines tell, one after another

abbrev pub with_place : Told → List ℕ → Placed → Told
with_place told name place =
    record { opened = told.opened; first = told.first; now = told.now; last = told.last; files = told.files ++ (name, place) ∷ [] }

-- what is told, with what the last line told
abbrev pub told_with : Told → Pending → Told
told_with told pending.Start = told
told_with told (pending.File name place) = with_place told name place
told_with told (pending.Entry line) = told_line told line
told_with told pending.Done = told

abbrev pub told_at : State → Told
told_at state = told_with state.told state.pending

abbrev pub shard_at : State → ℕ
shard_at state = state.shard

-- contents of that size, which no line has changed
abbrev pub left_as : Option ℕ → LifeContents
left_as None = has.Absent
left_as (Some size) = has.Left size

abbrev pub placed_at : ℕ → Option ℕ → Placed
placed_at version size = record { version = version; contents = left_as size; lock = None; spent = [] }

abbrev pub held_place : Placed → Lock → Placed
held_place place lock = record { version = place.version; contents = place.contents; lock = Some lock; spent = place.spent }

abbrev pub spent_place : Placed → Spent → Placed
spent_place place one = record { version = place.version; contents = place.contents; lock = place.lock; spent = place.spent ++ one ∷ [] }

abbrev pub pending_held : Pending → Lock → Pending
pending_held (pending.File name place) lock = pending.File name (held_place place lock)
pending_held other lock = other

abbrev pub pending_spent : Pending → Spent → Pending
pending_spent (pending.File name place) one = pending.File name (spent_place place one)
pending_spent other one = other

-- what stands under a name
abbrev pub holding : Placed → Option (List ℕ) → Placed
holding place contents = record { version = place.version; contents = told_as contents; lock = place.lock; spent = place.spent }

abbrev pub told_holds : Told → List ℕ → Option (List ℕ) → Told
told_holds told name contents =
    record {
      opened = told.opened;
      first = told.first;
      now = told.now;
      last = told.last;
      files = put_name name (holding (at_name (unmet told.first) told.files name) contents) told.files;
    }

abbrev pub step : State → Row → State
step state (row.At name version size) =
    record { shard = state.shard; told = told_with state.told state.pending; pending = pending.File name (placed_at version size) }
step state (row.Held name lock) = record { shard = state.shard; told = state.told; pending = pending_held state.pending lock }
step state (row.Spent name one) = record { shard = state.shard; told = state.told; pending = pending_spent state.pending one }
step state (row.Entry line) = record { shard = state.shard; told = told_with state.told state.pending; pending = pending.Entry line }
step state row.Off = record { shard = state.shard; told = state.told; pending = pending.Done }
step state (row.Holds name contents) =
    record { shard = state.shard; told = told_holds (told_with state.told state.pending) name contents; pending = pending.Done }

-- ---- which line may come next

-- files come first, each name once
abbrev pub MayBegin : Told → Pending → List ℕ → Type 0
MayBegin told pending.Start name = place_in told.files name ≡ None
MayBegin told (pending.File last place) name = (bytes_eq last name ≡ false) × (place_in told.files name ≡ None)
MayBegin told (pending.Entry line) name = ⊥
MayBegin told pending.Done name = ⊥

-- a file's lock stands behind its line, before its spent ids
abbrev pub MayHold : Pending → List ℕ → Type 0
MayHold (pending.File own place) name = (own ≡ name) × (place.lock ≡ None) × (place.spent ≡ [])
MayHold _ name = ⊥

abbrev pub MaySpend : Pending → List ℕ → Type 0
MaySpend (pending.File own place) name = own ≡ name
MaySpend _ name = ⊥

abbrev pub MayTakeBack : Pending → Type 0
MayTakeBack (pending.Entry line) = ⊤
MayTakeBack _ = ⊥

-- the last line, if it is that of an entry
abbrev pub last_entry : Pending → Option Line
last_entry (pending.Entry line) = Some line
last_entry _ = None

abbrev pub now_with : Told → Pending → ℕ
now_with told (pending.Entry line) = line.now
now_with told _ = told.now

abbrev pub last_with : Told → Pending → ℕ
last_with told (pending.Entry line) = line.stamp
last_with told _ = told.last

-- an entry is of the shard, its time doesn't fall and is no less than its moment, and its stamp rises
abbrev pub MayEnter : ℕ → ℕ → ℕ → Line → Type 0
MayEnter shard now last line =
    (line.shard ≡ shard) × (shard_of line.name ≡ shard) × (now ≤ line.now) × (line.moment ≤ line.now) × (last < line.stamp)

-- what stands under a name is told behind the line of a store fault there
abbrev pub MayStand : Pending → List ℕ → Type 0
MayStand (pending.Entry line) name = (line.name ≡ name) × (line.status ≡ 500)
MayStand _ name = ⊥

abbrev pub MayCome : State → Row → Type 0
MayCome state (row.At name version size) = (shard_of name ≡ state.shard) × MayBegin state.told state.pending name
MayCome state (row.Held name lock) = MayHold state.pending name
MayCome state (row.Spent name one) = MaySpend state.pending name
MayCome state (row.Entry line) = MayEnter state.shard (now_with state.told state.pending) (last_with state.told state.pending) line
MayCome state row.Off = MayTakeBack state.pending
MayCome state (row.Holds name contents) = MayStand state.pending name

-- ---- whole segments

abbrev pub start : Head → State
start head =
    record {
      shard = head.shard;
      told = record { opened = head.opened; first = head.first; now = head.now; last = head.last; files = [] };
      pending = pending.Start;
    }

abbrev pub state_after : State → List Row → State
state_after state [] = state
state_after state (one ∷ rows) = state_after (step state one) rows

abbrev pub AreRows : State → List Row → Type 0
AreRows state [] = ⊤
AreRows state (one ∷ rows) = IsForm one × MayCome state one × AreRows (step state one) rows

abbrev pub head_text : Head → List ℕ
head_text head = row_text (head_words head)

abbrev pub segment_text : Head → List Row → List ℕ
segment_text head rows = head_text head ++ rows_text rows

-- a line that may come, whose contents aren't all there
pub record IsUnfilled (state : State) (tail : List ℕ) : Type 0 where
  pub one : Row
  pub size : ℕ
  pub part : List ℕ
  pub line_is : IsLine one (Some size)
  pub comes : MayCome state one
  pub parts : tail ≡ row_text (words_with one (Some size)) ++ part
  pub few : length part ≤ size

-- what is left when the writing of a line, or of its contents, was cut off
abbrev pub IsCut : State → List ℕ → Type 0
IsCut state tail = IsRow tail ⊎ IsUnfilled state tail

-- these are the lines of a segment, and behind them stands what was cut off
pub record IsSegment (bytes : List ℕ) (head : Head) (rows : List Row) (tail : List ℕ) : Type 0 where
  pub head_is : IsHead head
  pub rows_are : AreRows (start head) rows
  pub parts : bytes ≡ segment_text head rows ++ tail
  pub cut : IsCut (state_after (start head) rows) tail

-- some of the lines stand there, and behind them what was cut off
pub record IsCutShort (bytes : List ℕ) (head : Head) (rows : List Row) : Type 0 where
  pub kept : List Row
  pub lost : List Row
  pub tail : List ℕ
  pub rows_are : rows ≡ kept ++ lost
  pub segment : IsSegment bytes head kept tail

-- what the lines tell
abbrev pub told_by : Head → List Row → Told
told_by head rows = told_at (state_after (start head) rows)
