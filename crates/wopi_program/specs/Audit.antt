-- What a run of `audit` promises. (Own.)
use Rattle.std.specs.Prelude.{◌≡◌, ◌⊎◌, ℕ, List, [], ◌++◌, length, Option, codes, decimal}
use Rattle.journal_text.specs.declared.text.JournalText.{JournalText}
use Rattle.journal_audit.specs.declared.verdict.AuditFault.{AuditFault}
use Rattle.journal_audit.specs.declared.verdict.AuditFault.TheVariants as fault
use Rattle.journal_audit.specs.Lines.{IsBadLine, LegalText}
use Rattle.wopi_program.specs.declared.outside_world.Outside.{Outside}
use Rattle.wopi_program.specs.Edit.{Tells}
use Rattle.wopi_program.specs.JournalRuns.{TakesJournal}
use Rattle.wopi_program.specs.Meanings.{Meanings}
use Rattle.wopi_program.specs.Upgrade.{NotesForUpgrade}

-- the line of a legal journal with so many entries
abbrev pub legal_line : ℕ → List ℕ
legal_line entries = codes "legal " ++ (decimal entries ++ codes "\n")

-- the word for what is wrong with a line
abbrev pub fault_word : AuditFault → List ℕ
fault_word fault.Order = codes "order"
fault_word fault.Now = codes "now"
fault_word fault.Ruling = codes "ruling"

-- the line of a journal whose first line that isn't legal has this number, and is wrong in this
abbrev pub fault_line : ℕ → AuditFault → List ℕ
fault_line number wrong = codes "line " ++ (decimal number ++ (codes ": " ++ (fault_word wrong ++ codes "\n")))

-- The journal is legal, and that is told at status 0; or its first line that isn't legal is told, and what is wrong with it, at status 14.
-- Or memory was wanted for that, and nothing was told.
abbrev pub IsJudged : {K : Type 0} → (K → Option (List ℕ)) → JournalText → ℕ → K → K → Type 0
IsJudged held text status output output' =
    ((status ≡ 6) × (output' ≡ output))
    ⊎ ((LegalText text × Tells (held output) (held output') status 0 [] (legal_line (length text.lines)))
    ⊎ ((number : ℕ) × (wrong : AuditFault) × IsBadLine text number wrong × Tells (held output) (held output') status 14 [] (fault_line number wrong)))

-- a run: what the input is, and, where that is a journal, what was told of it; and the notes
pub record AuditEnds {S K F N D C G L : Type 0} (m : Meanings S K F N D C G L) (status : ℕ) (old new : Outside S K F N D C G) : Type 0 where
  pub audits : TakesJournal m (IsJudged m.held) status old new
  pub notes : NotesForUpgrade m.held m.write_faults status old.notes new.notes
