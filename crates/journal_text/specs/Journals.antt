-- The text of a journal. (Own.)
use Rattle.std.specs.Prelude.{◌≡◌, ⊤, ℕ, zero, suc, ◌-◌, ◌≤◌, ◌==◌, nat_lt, Bool, true, List, [], ◌∷◌, ◌++◌, length, max, Option, None, Some, if◌then◌else◌}
use Rattle.std.specs.List.{AllByRecursion, join_with_byte}
use Rattle.std.specs.Ordering.{is_lt, nat_cmp}
use Rattle.std.specs.Cmp.Lexicographic.{slice_cmp}
use Rattle.wopi_text.specs.FileName.{shard_of}
pub use Rattle.host_table.specs.Bounds.{most_entries}
use Rattle.journal_text.specs.declared.text.Format.{Format}
use Rattle.journal_text.specs.declared.text.Format.TheVariants.{First, Second}
use Rattle.journal_text.specs.declared.text.JournalText.{JournalText}
use Rattle.journal_text.specs.declared.text.Line.{Line}
use Rattle.journal_text.specs.Lines.{IsFile, IsLine, IsOpening}
use Rattle.journal_text.specs.Words.{file_words, first_words, last_words, line_words}

-- ---- lines

-- words with single spaces between them, and a line feed
abbrev pub row_text : List (List ℕ) → List ℕ
row_text words = join_with_byte 32 words ++ 10 ∷ []

abbrev pub first_text : Format → ℕ → ℕ → List ℕ
first_text form opened first = row_text (first_words form opened first)

abbrev pub file_text : List ℕ × List ℕ → List ℕ
file_text file = row_text (file_words file)

abbrev pub line_text : Format → Line → List ℕ
line_text form line = row_text (line_words form line)

abbrev pub last_text : Format → ℕ → List ℕ
last_text form entries = row_text (last_words form entries)

-- the opening files' lines, the entries' and the last one, where so many entries came before
abbrev pub body_rows : Format → ℕ → List (List ℕ × List ℕ) → List Line → List (List ℕ)
body_rows form before [] [] = last_text form before ∷ []
body_rows form before [] (line ∷ lines) = line_text form line ∷ body_rows form (suc before) [] lines
body_rows form before (file ∷ files) lines = file_text file ∷ body_rows form before files lines

-- all lines
abbrev pub rows_of : Format → JournalText → List (List ℕ)
rows_of form text = first_text form text.opened text.first ∷ body_rows form 0 text.files text.lines

-- lines, one after another
abbrev pub text_of : List (List ℕ) → List ℕ
text_of [] = []
text_of (row ∷ rows) = row ++ text_of rows

-- ---- bounds

-- by shard, and in a shard by the bytes of the names
abbrev pub comes_after : List ℕ → List ℕ → Bool
comes_after last name = if shard_of last == shard_of name then is_lt (slice_cmp nat_cmp last name) else nat_lt (shard_of last) (shard_of name)

abbrev pub IsAfter : Option (List ℕ) → List ℕ → Type 0
IsAfter None name = ⊤
IsAfter (Some last) name = comes_after last name ≡ true

-- opening files in their order, behind one of that name
abbrev pub AreFiles : Option (List ℕ) → List (List ℕ × List ℕ) → Type 0
AreFiles last [] = ⊤
AreFiles last (file ∷ files) = IsFile file × IsAfter last file.0 × AreFiles (Some file.0) files

-- the greatest of when the host opened and the moments of a shard's entries
abbrev pub now_in : ℕ → ℕ → List Line → ℕ
now_in opened shard [] = opened
now_in opened shard (line ∷ lines) = now_in (if line.shard == shard then max opened line.moment else opened) shard lines

-- the first form doesn't tell the shard's time: it is the greatest so far
abbrev pub IsTimed : Format → ℕ → List Line → Line → Type 0
IsTimed First opened before line = line.now ≡ now_in opened line.shard (before ++ line ∷ [])
IsTimed Second opened before line = ⊤

abbrev pub AreTimed : Format → ℕ → List Line → List Line → Type 0
AreTimed form opened before [] = ⊤
AreTimed form opened before (line ∷ lines) = IsTimed form opened before line × AreTimed form opened (before ++ line ∷ []) lines

-- what a journal's text may tell
pub record IsWithin (form : Format) (text : JournalText) : Type 0 where
  pub opening : IsOpening form text.opened text.first
  pub files : AreFiles None text.files
  pub lines : AllByRecursion (IsLine form) text.lines
  pub few : length text.lines ≤ most_entries
  pub timed : AreTimed form text.opened [] text.lines

-- ---- readings

-- the bytes are the text of a journal, in one of the forms
abbrev pub IsReadingIn : Format → List ℕ → JournalText → Type 0
IsReadingIn form bytes text = IsWithin form text × (bytes ≡ text_of (rows_of form text))

abbrev pub IsReading : List ℕ → JournalText → Type 0
IsReading bytes text = (form : Format) × IsReadingIn form bytes text

-- the bytes begin with the first lines, so many of them
abbrev pub BeginsWith : ℕ → List (List ℕ) → List ℕ → Type 0
BeginsWith zero rows bytes = ⊤
BeginsWith (suc n) [] bytes = ⊥
BeginsWith (suc n) (row ∷ rows) bytes = (rest : List ℕ) × (bytes ≡ row ++ rest) × BeginsWith n rows rest

-- The line of that number, counted from 1, is the first bad one: those before it begin some journal, and with it they begin none.
-- The bytes are no journal either.
pub record IsBadLine (bytes : List ℕ) (number : ℕ) : Type 0 where
  pub counted : 1 ≤ number
  pub good : (form : Format) × (text : JournalText) × IsWithin form text × BeginsWith (number - 1) (rows_of form text) bytes
  pub bad : (form : Format) (text : JournalText) → IsWithin form text → BeginsWith number (rows_of form text) bytes → ⊥
  pub unread : (text : JournalText) → IsReading bytes text → ⊥

-- the most bytes of a journal
abbrev pub most_bytes : ℕ
most_bytes = 268435456
