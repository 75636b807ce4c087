-- What the reader of a journal has found. (Own.)
use Rattle.std.specs.Prelude.{◌≡◌, ◌⊎◌, ⊤, ℕ, suc, ◌<◌, List, [], ◌∷◌, ◌++◌, length, max, Option, None, Some, slice_index, slice_set}
use Rattle.wopi_model.specs.Moment.{IsMoment}
use Rattle.journal_text.specs.declared.text.Format.{Format}
use Rattle.journal_text.specs.declared.text.Format.TheVariants.{First, Second}
use Rattle.journal_text.specs.declared.text.JournalText.{JournalText}
use Rattle.journal_text.specs.declared.text.Line.{Line}
use Rattle.journal_text.specs.declared.reading.Reader.{Reader}
use Rattle.journal_text.specs.declared.reading.Taken.{Taken}
use Rattle.journal_text.specs.declared.reading.Taken.TheVariants as taken
use Rattle.journal_text.specs.Lines.{IsFile, IsLine}
use Rattle.journal_text.specs.Words.{file_words, last_words, line_words}
use Rattle.journal_text.specs.Journals.{IsAfter, IsWithin, most_entries, now_in}

-- the name of the last file, or what stood before
abbrev pub last_name : Option (List ℕ) → List (List ℕ × List ℕ) → Option (List ℕ)
last_name last [] = last
last_name last (file ∷ files) = last_name (Some file.0) files

-- ---- the times of the sixteen shards

pub record AreTimes (nows : List ℕ) : Type 0 where
  pub long : length nows ≡ 16
  pub moments : (shard : ℕ) → shard < 16 → IsMoment (slice_index nows shard)

-- after these entries
pub record HasTimes (nows : List ℕ) (opened : ℕ) (lines : List Line) : Type 0 where
  pub are : AreTimes nows
  pub times : (shard : ℕ) → shard < 16 → slice_index nows shard ≡ now_in opened shard lines

-- a shard's time never falls
abbrev pub time_of : List ℕ → Line → ℕ
time_of nows line = max (slice_index nows line.shard) line.moment

abbrev pub times_after : List ℕ → Line → List ℕ
times_after nows line = slice_set nows line.shard (time_of nows line)

-- the first form doesn't tell the time
abbrev pub IsClocked : Format → List ℕ → Line → Type 0
IsClocked First nows line = line.now ≡ time_of nows line
IsClocked Second nows line = ⊤

-- ---- what was read so far

-- the reader stands behind these lines
pub record IsReader (reader : Reader) (text : JournalText) : Type 0 where
  pub opened : text.opened ≡ reader.opened
  pub first : text.first ≡ reader.first
  pub within : IsWithin reader.form text
  pub last : reader.last ≡ last_name None text.files
  pub entries : reader.entries ≡ length text.lines
  pub times : HasTimes reader.nows text.opened text.lines

-- nothing but the first line
abbrev pub begun_text : ℕ → ℕ → JournalText
begun_text opened first = record { opened = opened; first = first; files = []; lines = [] }

abbrev pub with_file : JournalText → List ℕ × List ℕ → JournalText
with_file text file = record { opened = text.opened; first = text.first; files = text.files ++ file ∷ []; lines = text.lines }

abbrev pub with_line : JournalText → Line → JournalText
with_line text line = record { opened = text.opened; first = text.first; files = text.files; lines = text.lines ++ line ∷ [] }

-- ---- the next line

-- it is that of an opening file
pub record TakesFile (words : List (List ℕ)) (old : Reader) (file : List ℕ × List ℕ) (new : Reader) : Type 0 where
  pub form_is : IsFile file
  pub said : words ≡ file_words file
  pub none : old.entries ≡ 0
  pub after : IsAfter old.last file.0
  pub new_is : new ≡ record old { last = Some file.0 }

-- it is that of an entry
pub record TakesLine (words : List (List ℕ)) (old : Reader) (line : Line) (new : Reader) : Type 0 where
  pub form_is : IsLine old.form line
  pub said : words ≡ line_words old.form line
  pub few : old.entries < most_entries
  pub clocked : IsClocked old.form old.nows line
  pub new_is : new ≡ record old { entries = suc old.entries; nows = times_after old.nows line }

-- no line with these words can come next
pub record IsUnfit (words : List (List ℕ)) (form : Format) (mark : Option (List ℕ)) (entries : ℕ) : Type 0 where
  pub last : words ≡ last_words form entries → ⊥
  pub file : (file : List ℕ × List ℕ) → IsFile file → entries ≡ 0 → IsAfter mark file.0 → words ≡ file_words file → ⊥
  pub line : (line : Line) → IsLine form line → entries < most_entries → words ≡ line_words form line → ⊥

-- what a line is
abbrev pub Takes : List (List ℕ) → Reader → Taken → Reader → Type 0
Takes words old (taken.File file) new = TakesFile words old file new
Takes words old (taken.Entry line) new = TakesLine words old line new
Takes words old taken.Last new = (words ≡ last_words old.form old.entries) × (new ≡ old)
Takes words old taken.Bad new = IsUnfit words old.form old.last old.entries

-- one line more was read
abbrev pub Adds : List (List ℕ) → Reader → JournalText → Reader → JournalText → Type 0
Adds words old text new next =
    ((file : List ℕ × List ℕ) × TakesFile words old file new × (next ≡ with_file text file)) ⊎ ((line : Line) × TakesLine words old line new × (next ≡ with_line text line))
