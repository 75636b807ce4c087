-- A journal as far as its bytes have come, piece by piece. (Own.)
use Rattle.std.specs.Prelude.{◌≡◌, ℕ, suc, ◌≤◌, List, [], ◌∷◌, ◌++◌, Result, Ok, Err, Option, length}
use Rattle.journal_text.specs.declared.text.JournalText.{JournalText}
use Rattle.journal_text.specs.declared.reading.Reader.{Reader}
use Rattle.journal_text.specs.declared.pieces.LineReader.{LineReader}
use Rattle.journal_text.specs.declared.pieces.Stage.{Stage}
use Rattle.journal_text.specs.declared.pieces.Stage.TheVariants as stage
use Rattle.journal_text.specs.Words.{IsRow, last_words, words_of}
use Rattle.journal_text.specs.Journals.{IsBadLine, most_bytes}
use Rattle.journal_text.specs.Reader.{IsReader}
use Rattle.journal_text.specs.SoFar.{IsRead, IsSoFar}
use Rattle.journal_text.specs.Inputs.{IsWholeInput}

-- The text has come, but for the bytes ahead: it is so many lines, which were taken, and what there is of the next, however it goes on.
pub record AreLines {R : Type 0} (keeps : R → JournalText → Type 0) (text ahead row : List ℕ) (number : ℕ) (keeper : R) (reader : Reader) : Type 0 where
  pub told : JournalText
  pub kept : keeps keeper told
  pub reader_is : IsReader reader told
  pub row_is : IsRow row
  pub so : (more : List ℕ) → IsSoFar (text ++ more) (row ++ (ahead ++ more)) reader.form told number

-- The last line was taken too, and nothing behind it.
pub record AreAll {R : Type 0} (keeps : R → JournalText → Type 0) (text ahead row : List ℕ) (number : ℕ) (keeper : R) (reader : Reader) : Type 0 where
  pub told : JournalText
  pub kept : keeps keeper told
  pub reader_is : IsReader reader told
  pub none : row ≡ []
  pub last : List ℕ
  pub last_is : IsRow last
  pub said : words_of last ≡ last_words reader.form reader.entries
  pub before : ℕ
  pub count : number ≡ suc before
  pub so : (more : List ℕ) → IsSoFar (text ++ more) (last ++ 10 ∷ (ahead ++ more)) reader.form told before

-- nothing but the first line, and not the whole of that
pub record IsFirst {R : Type 0} (is_new : R → Type 0) (text ahead row : List ℕ) (number : ℕ) (keeper : R) : Type 0 where
  pub new : is_new keeper
  pub row_is : IsRow row
  pub whole : text ≡ row ++ ahead
  pub count : number ≡ 0

module _ {R : Type 0} (is_new : R → Type 0) (keeps : R → JournalText → Type 0) where
  -- the text has come, but for the bytes ahead
  abbrev pub IsAt : List ℕ → List ℕ → List ℕ → ℕ → R → Stage → Type 0
  IsAt text ahead row number keeper stage.First = IsFirst is_new text ahead row number keeper
  IsAt text ahead row number keeper (stage.Lines reader) = AreLines keeps text ahead row number keeper reader
  IsAt text ahead row number keeper (stage.All reader) = AreAll keeps text ahead row number keeper reader
  IsAt text ahead row number keeper (stage.Bad line) = (more : List ℕ) → IsBadLine (text ++ more) line

  abbrev pub Reaches : List ℕ → List ℕ → LineReader R → Type 0
  Reaches text ahead lines = IsAt text ahead lines.row.items lines.number lines.keeper lines.stage

  -- the text has come, and may be a journal's or its front
  pub record HasCome (lines : LineReader R) (text : List ℕ) : Type 0 where
    pub reaches : Reaches text [] lines
    pub size : lines.size ≡ length text
    pub count : lines.number ≤ length text
    pub few : length text ≤ most_bytes

-- a text read as a journal, or its first bad line
abbrev pub IsTaken : {R : Type 0} → (R → JournalText → Type 0) → List ℕ → Result (Reader × R) ℕ → Type 0
IsTaken keeps text (Ok read) = IsRead keeps text read.0 read.1
IsTaken keeps text (Err line) = IsBadLine text line

-- The whole input is the text of a journal, of which that is kept, and which has so many entries.
pub record IsKeptOf {R : Type 0} (keeps : R → JournalText → Type 0) (left left' : Option (List ℕ)) (keeper : R) (entries : ℕ) : Type 0 where
  pub text : JournalText
  pub read : IsWholeInput left left' text
  pub kept : keeps keeper text
  pub count : entries ≡ length text.lines
