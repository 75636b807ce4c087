-- The contents that a journal's files had at their versions. (Own.)
use Rattle.std.specs.Prelude.{◌≡◌, ◌⊎◌, ℕ, List, ◌∷◌, ◌++◌, Some}
use Rattle.std.specs.List.{AllByRecursion}
use Rattle.wopi_text.specs.FileName.{shard_of}
use Rattle.wopi_model.specs.File.{File}
use Rattle.host_core.specs.Opening.{opened_contents}
use Rattle.journal_text.specs.declared.text.JournalText.{JournalText}
use Rattle.journal_text.specs.declared.text.Line.{Line}
use Rattle.journal_audit.specs.Lines.{behind_lines, opened_host}

-- The line's call gave the file of that name that version, with these contents. Only the line of an accepted Put or Create tells
-- contents.
pub record Gives (name : List ℕ) (version : ℕ) (line : Line) (contents : List ℕ) : Type 0 where
  pub name_is : line.name ≡ name
  pub version_is : line.version ≡ Some version
  pub contents_are : line.contents ≡ Some contents

abbrev pub GivesNone : List ℕ → ℕ → Line → Type 0
GivesNone name version line = (contents : List ℕ) → Gives name version line contents → ⊥

-- the first line that gave the file that version gave it these contents
pub record IsGiven (name : List ℕ) (version : ℕ) (lines : List Line) (contents : List ℕ) : Type 0 where
  pub before : List Line
  pub line : Line
  pub after : List Line
  pub lines_are : lines ≡ before ++ line ∷ after
  pub first : AllByRecursion (GivesNone name version) before
  pub gives : Gives name version line contents

-- the file stood there with these contents when the host opened, and that is the version of the opening files
abbrev pub StoodThere : JournalText → List ℕ → ℕ → List ℕ → Type 0
StoodThere text name version contents = (version ≡ text.first) × (opened_contents text.files name ≡ Some contents)

-- The file had these contents at that version: those of its opening, or else those that an entry gave it.
abbrev pub HadContents : JournalText → List ℕ → ℕ → List ℕ → Type 0
HadContents text name version contents =
    StoodThere text name version contents
    ⊎ (((others : List ℕ) → StoodThere text name version others → ⊥) × IsGiven name version text.lines contents)

-- ---- in a legal journal

-- what these lines leave of the file of that name
abbrev pub left_of : JournalText → List Line → List ℕ → File
left_of text lines name = ((behind_lines (opened_host text.files text.opened text.first) lines).shards (shard_of name)).files name

-- behind some of the journal's lines, from the first on, the file has that version, with these contents
pub record Stood (text : JournalText) (name : List ℕ) (version : ℕ) (contents : List ℕ) : Type 0 where
  pub front : List Line
  pub back : List Line
  pub lines_are : text.lines ≡ front ++ back
  pub version_is : (left_of text front name).version ≡ version
  pub contents_are : (left_of text front name).contents ≡ Some contents
