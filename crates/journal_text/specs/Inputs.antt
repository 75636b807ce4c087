-- A journal that is the whole of an input. (Own.)
use Rattle.std.specs.Prelude.{◌≡◌, ◌≤◌, ◌+◌, ⊤, ℕ, List, length, Option}
use Rattle.std.specs.Io.KnownBytes.{Consumes, IsAtEnd}
use Rattle.journal_text.specs.declared.input.SizeFault.{SizeFault}
use Rattle.journal_text.specs.declared.input.SizeFault.TheVariants.{TooLong, Memory}
use Rattle.journal_text.specs.declared.text.JournalText.{JournalText}
use Rattle.journal_text.specs.Journals.{IsBadLine, IsReading, most_bytes}

-- The bytes may be a journal's, or its front: they are no more than a journal may have.
abbrev pub AreFew : List ℕ → Type 0
AreFew bytes = length bytes ≤ most_bytes

-- No more of the bytes is taken: there is one more than a journal may have.
abbrev pub AreTooMany : List ℕ → SizeFault → Type 0
AreTooMany bytes TooLong = length bytes ≡ most_bytes + 1
AreTooMany bytes Memory = ⊤

-- These are all the bytes of the input, which was read to its end, and they are no more than those of a journal.
pub record IsWhole (left left' : Option (List ℕ)) (bytes : List ℕ) : Type 0 where
  pub consumed : Consumes left left' bytes
  pub end : IsAtEnd left'
  pub short : length bytes ≤ most_bytes

-- The input has more bytes than a journal: one more was read.
pub record IsLong (left left' : Option (List ℕ)) : Type 0 where
  pub bytes : List ℕ
  pub consumed : Consumes left left' bytes
  pub many : length bytes ≡ most_bytes + 1

-- The whole input is the text of this journal.
pub record IsWholeInput (left left' : Option (List ℕ)) (text : JournalText) : Type 0 where
  pub bytes : List ℕ
  pub whole : IsWhole left left' bytes
  pub read : IsReading bytes text

-- The whole input has its first bad line here.
pub record IsBadInput (left left' : Option (List ℕ)) (number : ℕ) : Type 0 where
  pub bytes : List ℕ
  pub whole : IsWhole left left' bytes
  pub bad : IsBadLine bytes number
