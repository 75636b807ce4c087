-- A journal as far as its lines were read. (Own.)
use Rattle.std.specs.Prelude.{◌≡◌, ⊤, ℕ, zero, suc, ◌+◌, ◌<◌, ◌≤◌, List, [], ◌∷◌, ◌++◌, length, Option, None, Some}
use Rattle.std.specs.List.{AllByRecursion, flat_map}
use Rattle.journal_text.specs.declared.text.Format.{Format}
use Rattle.journal_text.specs.declared.text.JournalText.{JournalText}
use Rattle.journal_text.specs.declared.text.Line.{Line}
use Rattle.journal_text.specs.declared.reading.Reader.{Reader}
use Rattle.journal_text.specs.declared.pieces.Step.{Step}
use Rattle.journal_text.specs.declared.pieces.Step.TheVariants.{On, Last, Bad}
use Rattle.journal_text.specs.Lines.{IsLine}
use Rattle.journal_text.specs.Words.{last_words}
use Rattle.journal_text.specs.Journals.{AreFiles, IsReadingIn, IsWithin, body_rows, file_text, first_text, line_text, most_entries, rows_of}
use Rattle.journal_text.specs.Reader.{Adds, IsReader, IsUnfit, last_name}

-- the bytes begin with so many lines, or are all of them
abbrev pub Begins : Option ℕ → List (List ℕ) → List ℕ → Type 0
Begins None [] bytes = bytes ≡ []
Begins None (row ∷ rows) bytes = (rest : List ℕ) × (bytes ≡ row ++ rest) × Begins None rows rest
Begins (Some zero) rows bytes = ⊤
Begins (Some (suc n)) [] bytes = ⊥
Begins (Some (suc n)) (row ∷ rows) bytes = (rest : List ℕ) × (bytes ≡ row ++ rest) × Begins (Some n) rows rest

-- one line more, and so many more
abbrev pub one_more : Option ℕ → Option ℕ
one_more None = None
one_more (Some n) = Some (suc n)

abbrev pub more : ℕ → Option ℕ → Option ℕ
more zero k = k
more (suc n) k = more n (one_more k)

-- what is left begins with lines that may come next
pub record Goes (form other : Format) (last : Option (List ℕ)) (before : ℕ) (rest : List ℕ) (k : Option ℕ) : Type 0 where
  pub same : other ≡ form
  pub files : List (List ℕ × List ℕ)
  pub lines : List Line
  pub files_are : AreFiles last files
  pub lines_are : AllByRecursion (IsLine form) lines
  pub few : before + length lines ≤ most_entries
  pub none : 0 < before → files ≡ []
  pub begins : Begins k (body_rows form before files lines) rest

-- the lines that were read are those of the text, and whatever journal the bytes begin goes on in what is left
pub record IsSoFar (bytes rest : List ℕ) (form : Format) (text : JournalText) (n : ℕ) : Type 0 where
  pub whole : bytes ≡ first_text form text.opened text.first ++ (flat_map file_text text.files ++ (flat_map (line_text form) text.lines ++ rest))
  pub count : n ≡ suc (length text.files + length text.lines)
  pub only : (other : Format) (any : JournalText) (k : Option ℕ) → IsWithin other any → Begins (more n k) (rows_of other any) bytes
      → Goes form other (last_name None text.files) (length text.lines) rest k

-- the bytes are the text, and the reader stands behind it
pub record IsReadBy (bytes : List ℕ) (reader : Reader) (text : JournalText) : Type 0 where
  pub reader_is : IsReader reader text
  pub reading : IsReadingIn reader.form bytes text

-- ---- a reader, and a keeper of what it reads

module _ {R : Type 0} (keeps : R → JournalText → Type 0) where
  -- all lines were read
  pub record IsRead (bytes : List ℕ) (reader : Reader) (keeper : R) : Type 0 where
    pub text : JournalText
    pub kept : keeps keeper text
    pub read : IsReadBy bytes reader text

  -- what the line of that number did
  abbrev pub Steps : List (List ℕ) → ℕ → Reader → R → Step → Reader → R → Type 0
  Steps words number old keeper On new keeper' =
      (text : JournalText) → old.entries ≡ length text.lines → number ≡ length text.lines + length text.files + 2 → keeps keeper text
      → (next : JournalText) × keeps keeper' next × Adds words old text new next
  Steps words number old keeper Last new keeper' = (words ≡ last_words old.form old.entries) × (new ≡ old) × (keeper' ≡ keeper)
  Steps words number old keeper Bad new keeper' = IsUnfit words old.form old.last old.entries
