-- The journal that `serve` writes, and what `audit` says of it. (Own.)
use Rattle.std.specs.Prelude.{◌≡◌, ◌≢◌, ℕ, List, length}
use Rattle.std.specs.Io.KnownBytes.{Appends}
use Rattle.journal_text.specs.declared.text.JournalText.{JournalText}
use Rattle.journal_text.specs.Journals.{IsReading}
use Rattle.journal_audit.specs.Lines.{LegalText}
use Rattle.wopi_program.specs.declared.outside_world.Outside.{Outside}
use Rattle.wopi_program.specs.Audit.{legal_line}
use Rattle.wopi_program.specs.Meanings.{Meanings}

-- the bytes are the text of that journal, and it is legal
pub record IsLegalJournal (bytes : List ℕ) (text : JournalText) : Type 0 where
  pub read : IsReading bytes text
  pub legal : LegalText text

-- A run of `audit` calls the journal legal: at status 0 it tells so, and how many entries there are. It ends neither as with a bad line nor as
-- with a line that isn't legal.
pub record CallsLegal {S K F N D C G L : Type 0} (m : Meanings S K F N D C G L) (text : JournalText) (status : ℕ) (old new : Outside S K F N D C G) : Type 0 where
  pub told : status ≡ 0 → Appends (m.held old.output) (m.held new.output) (legal_line (length text.lines))
  pub has_no_bad_line : status ≢ 7
  pub has_no_fault : status ≢ 14
