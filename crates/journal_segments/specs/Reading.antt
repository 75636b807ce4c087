-- A segment as far as it was read. (Own.)
use Rattle.std.specs.Prelude.{◌≡◌, ◌⊎◌, ◌≢◌, ⊤, ◌≤◌, ◌<◌, ◌+◌, ℕ, List, [], ◌∷◌, ◌++◌, length, take, Option, None, Some}
use Rattle.std.specs.Io.KnownBytes.{Consumes, IsAtEnd}
use Rattle.wopi_model.specs.Moment.{IsMoment}
use Rattle.line_text.specs.Words.{IsRow}
use Rattle.journal_segments.specs.declared.rows.Head.{Head}
use Rattle.journal_segments.specs.declared.rows.Row.{Row}
use Rattle.journal_segments.specs.declared.state.State.{State}
use Rattle.journal_segments.specs.declared.walking.Front.{Front}
use Rattle.journal_segments.specs.declared.walking.Front.TheVariants as front
use Rattle.journal_segments.specs.declared.walking.SegmentFault.{SegmentFault}
use Rattle.journal_segments.specs.declared.walking.SegmentFault.TheVariants as fault
use Rattle.journal_segments.specs.declared.reading.Stage.{Stage}
use Rattle.journal_segments.specs.declared.reading.Stage.TheVariants as stage
use Rattle.journal_segments.specs.declared.reading.SegmentReader.{SegmentReader}
use Rattle.journal_segments.specs.declared.reading.Restored.{Restored}
use Rattle.journal_segments.specs.Seen.{IsFresh, Sees}
use Rattle.journal_segments.specs.Rows.{AreRows, IsCut, IsForm, IsHead, IsSegment, MayCome, filled, head_text, now_with, rows_text, segment_text, start, state_after, text_of, told_by}

-- ---- bounds

-- A line has fewer bytes than this. Contents behind a line may have more.
abbrev pub most_line : ℕ
most_line = 65536

-- the most bytes of a segment
abbrev pub most_bytes : ℕ
most_bytes = 1152921504606846976

-- no line feed stands where it has to
pub record IsLong (text : List ℕ) : Type 0 where
  pub many : most_line ≤ length text
  pub none : IsRow (take most_line text)

-- ---- what stands at the front of a text

pub record IsTimed (state : State) : Type 0 where
  pub before : IsMoment state.told.now
  pub after : IsMoment (now_with state.told state.pending)

-- no line that may come begins the text, however it goes on
abbrev pub IsUnfit : State → List ℕ → Type 0
IsUnfit state text = (one : Row) (rest more : List ℕ) → IsForm one → MayCome state one → text ++ more ≢ text_of one ++ rest

-- a whole line
abbrev pub HasLine : List ℕ → Type 0
HasLine text = (row : List ℕ) × (behind : List ℕ) × IsRow row × (text ≡ row ++ 10 ∷ behind)

-- no more than is missing until there are so many bytes makes a whole line, with its contents, of the text
abbrev pub Waits : State → List ℕ → ℕ → Type 0
Waits state text wanted = (length text < wanted) × ((more : List ℕ) → length text + length more < wanted → IsCut state (text ++ more))

pub record IsWhole (state : State) (text : List ℕ) (one : Row) (behind : List ℕ) : Type 0 where
  pub form_is : IsForm one
  pub comes : MayCome state one
  pub parts : text ≡ text_of one ++ behind

abbrev pub Stands : State → List ℕ → Front → Type 0
Stands state text (front.Whole one behind) = IsWhole state text one behind.now
Stands state text (front.Cut wanted) = Waits state text wanted
Stands state text front.Bad = HasLine text × IsUnfit state text
Stands state text front.Long = IsLong text

-- the same of what stands behind a line that has so many bytes and tells contents of that size
abbrev pub StandsBehind : Row → ℕ → ℕ → List ℕ → Front → Type 0
StandsBehind one size line behind (front.Whole two rest) =
    (contents : List ℕ) × (length contents ≡ size) × (two ≡ filled one (Some contents)) × (behind ≡ contents ++ 10 ∷ rest.now)
StandsBehind one size line behind (front.Cut wanted) = (length behind ≤ size) × (line + length behind + 1 < wanted) × (wanted ≤ line + size + 2)
StandsBehind one size line behind front.Bad = (contents : List ℕ) × (byte : ℕ) × (rest : List ℕ) × (length contents ≡ size) × (behind ≡ contents ++ byte ∷ rest) × (byte ≢ 10)
StandsBehind one size line behind front.Long = ⊥

-- ---- lines at the front of a text

-- the text is these lines and what is left of it, and so many lines were taken then
pub record Goes (old : State) (text : List ℕ) (number : ℕ) (new : State) (left : List ℕ) (counted : ℕ) : Type 0 where
  pub rows : List Row
  pub rows_are : AreRows old rows
  pub state_is : new ≡ state_after old rows
  pub parts : text ≡ rows_text rows ++ left
  pub number_is : counted ≡ number + length rows

-- and each of them was seen
pub record Walks {W : Type 0} (has_seen : W → Head → List Row → Type 0) (before after : W) (old : State) (text : List ℕ) (number : ℕ) (new : State) (left : List ℕ) (counted : ℕ) : Type 0 where
  pub goes : Goes old text number new left counted
  pub sees : Sees has_seen before after old number goes.rows

-- behind these lines no other may come
pub record IsStopped (state : State) (text : List ℕ) (number line : ℕ) : Type 0 where
  pub rows : List Row
  pub left : List ℕ
  pub rows_are : AreRows state rows
  pub parts : text ≡ rows_text rows ++ left
  pub number_is : line ≡ number + length rows + 1
  pub has : HasLine left
  pub unfit : IsUnfit (state_after state rows) left

-- behind these lines stands one that is too long
pub record IsOverlong (state : State) (text : List ℕ) (number line : ℕ) : Type 0 where
  pub rows : List Row
  pub left : List ℕ
  pub rows_are : AreRows state rows
  pub parts : text ≡ rows_text rows ++ left
  pub number_is : line ≡ number + length rows + 1
  pub long : IsLong left

abbrev pub Stops : State → List ℕ → ℕ → SegmentFault → Type 0
Stops state text number (fault.Bad line) = IsStopped state text number line
Stops state text number (fault.Long line) = IsOverlong state text number line
Stops state text number fault.Memory = ⊤
Stops state text number other = ⊥

-- ---- a segment as far as its bytes have come

-- the first line and others were taken, and that is held of the text
pub record HasTaken (text held : List ℕ) (number : ℕ) (state : State) : Type 0 where
  pub head : Head
  pub rest : List ℕ
  pub head_is : IsHead head
  pub parts : text ≡ head_text head ++ rest
  pub goes : Goes (start head) rest 1 state held number
  pub timed : IsTimed state

-- and each of them was seen
pub record HasSeen {W : Type 0} (has_seen : W → Head → List Row → Type 0) (watcher : W) (text held : List ℕ) (number : ℕ) (state : State) : Type 0 where
  pub taken : HasTaken text held number state
  pub seen_are : has_seen watcher taken.head taken.goes.rows

abbrev pub Reaches : {W : Type 0} → (W → Head → List Row → Type 0) → W → List ℕ → Stage → ℕ → List ℕ → ℕ → Type 0
Reaches has_seen watcher text stage.First number held wanted = (held ≡ text) × (number ≡ 0) × IsRow held × (wanted ≡ length held + 1) × IsFresh has_seen watcher
Reaches has_seen watcher text (stage.Rows state) number held wanted = HasSeen has_seen watcher text held number state × Waits state held wanted

pub record HasCome {W : Type 0} (has_seen : W → Head → List Row → Type 0) (reader : SegmentReader W) (text : List ℕ) : Type 0 where
  pub reaches : Reaches has_seen reader.watcher text reader.stage reader.number reader.held.items reader.wanted
  pub size : reader.size ≡ length text
  pub few : length text ≤ most_bytes
  pub count : reader.number + length reader.held.items ≤ length text

-- ---- why no more is read

-- The line of that number, counted from 1, is the first that can't stand where it does, whatever follows it.
pub record IsBadRow (bytes : List ℕ) (line : ℕ) : Type 0 where
  pub head : Head
  pub rows : List Row
  pub left : List ℕ
  pub head_is : IsHead head
  pub rows_are : AreRows (start head) rows
  pub parts : bytes ≡ segment_text head rows ++ left
  pub number_is : line ≡ length rows + 2
  pub has : HasLine left
  pub unfit : IsUnfit (state_after (start head) rows) left

-- behind these lines stands one that is too long
pub record IsLongBehind (bytes : List ℕ) (line : ℕ) : Type 0 where
  pub head : Head
  pub rows : List Row
  pub left : List ℕ
  pub head_is : IsHead head
  pub rows_are : AreRows (start head) rows
  pub parts : bytes ≡ segment_text head rows ++ left
  pub number_is : line ≡ length rows + 2
  pub long : IsLong left

abbrev pub IsLongRow : List ℕ → ℕ → Type 0
IsLongRow bytes line = ((line ≡ 1) × IsLong bytes) ⊎ IsLongBehind bytes line

-- no first line of a segment begins the bytes, however they go on
abbrev pub HasNoHead : List ℕ → Type 0
HasNoHead bytes = (more rest : List ℕ) (head : Head) → IsHead head → bytes ++ more ≢ head_text head ++ rest

-- or the source ended before a line did
abbrev pub IsHeadless : Option (List ℕ) → List ℕ → Type 0
IsHeadless left bytes = HasNoHead bytes ⊎ (IsAtEnd left × IsRow bytes)

abbrev pub AreTooMany : List ℕ → Type 0
AreTooMany bytes = most_bytes < length bytes

abbrev pub Refuses : List ℕ → SegmentFault → Type 0
Refuses bytes fault.Head = HasNoHead bytes
Refuses bytes (fault.Bad line) = IsBadRow bytes line
Refuses bytes (fault.Long line) = IsLongRow bytes line
Refuses bytes fault.TooLong = AreTooMany bytes
Refuses bytes fault.Memory = ⊤

abbrev pub IsMissing : List ℕ → SegmentFault → Type 0
IsMissing bytes fault.Head = IsRow bytes
IsMissing bytes fault.Memory = ⊤
IsMissing bytes other = ⊥

-- ---- what was read

-- the bytes have the lines of a segment that tell this
pub record EndsIn (bytes : List ℕ) (read : Restored) : Type 0 where
  pub head : Head
  pub rows : List Row
  pub tail : List ℕ
  pub segment : IsSegment bytes head rows tail
  pub shard_is : read.shard ≡ head.shard
  pub told_is : read.told ≡ told_by head rows
  pub used_is : read.used ≡ length (segment_text head rows)

-- the source was read to its end
pub record IsRestored (left left' : Option (List ℕ)) (read : Restored) : Type 0 where
  pub bytes : List ℕ
  pub consumed : Consumes left left' bytes
  pub end : IsAtEnd left'
  pub ends : EndsIn bytes read

-- ---- what was seen

-- and the watcher has seen these lines
pub record IsSeen {W : Type 0} (has_seen : W → Head → List Row → Type 0) (bytes : List ℕ) (read : Restored) (watcher : W) : Type 0 where
  pub ends : EndsIn bytes read
  pub seen_are : has_seen watcher ends.head ends.rows

-- the source was read to its end, and the watcher has seen the lines
pub record IsWatched {W : Type 0} (has_seen : W → Head → List Row → Type 0) (left left' : Option (List ℕ)) (read : Restored) (watcher : W) : Type 0 where
  pub restored : IsRestored left left' read
  pub seen_are : has_seen watcher restored.ends.head restored.ends.rows
