-- What is said of a journal that is the whole of an input. (Own.)
use Rattle.std.specs.Prelude.{◌≡◌, ⊤, ℕ, ◌+◌, List, [], Option, None, Some, length}
use Rattle.std.specs.List.{AllByRecursion}
use Rattle.journal_text.specs.declared.text.JournalText.{JournalText}
use Rattle.journal_text.specs.declared.text.Line.{Line}
use Rattle.journal_text.specs.Inputs.{IsWholeInput}
use Rattle.journal_text.specs.Reader.{with_line}
use Rattle.journal_audit.specs.declared.verdict.AuditFault.{AuditFault}
use Rattle.journal_audit.specs.declared.input.Audit.{Audit}
use Rattle.journal_audit.specs.declared.input.Progress.{Progress}
use Rattle.journal_audit.specs.declared.input.Progress.TheVariants as progress
use Rattle.journal_audit.specs.declared.sought.Sought.{Sought}
use Rattle.journal_audit.specs.declared.verdict.Verdict.{Verdict}
use Rattle.journal_audit.specs.declared.verdict.Verdict.TheVariants as verdict
use Rattle.journal_audit.specs.Audits.{Audited, IsOpenedHost, Keeps}
use Rattle.journal_audit.specs.Contents.{GivesNone, HadContents, StoodThere}
use Rattle.journal_audit.specs.Lines.{IsBadLine, LegalText, behind_lines, opened_host}

-- ---- verdicts

abbrev pub IsVerdict : JournalText → Verdict → Type 0
IsVerdict text verdict.Legal = LegalText text
IsVerdict text (verdict.Bad line wrong) = IsBadLine text line wrong

-- the whole input is the text of a journal with so many entries, and that is the verdict on it
pub record IsAudited (left left' : Option (List ℕ)) (audit : Audit) : Type 0 where
  pub text : JournalText
  pub read : IsWholeInput left left' text
  pub judged : IsVerdict text audit.verdict
  pub count : audit.entries ≡ length text.lines

-- All lines are legal, and the auditor goes on behind them. As long as no entry has come, it takes opening files.
pub record KeepsText (auditor : Audited) (text : JournalText) : Type 0 where
  pub opened : text.lines ≡ [] → IsOpenedHost auditor text.files text.opened text.first
  pub keeps : Keeps auditor (behind_lines (opened_host text.files text.opened text.first) text.lines)
  pub legal : LegalText text

abbrev pub KeepsJournal : Progress → JournalText → Type 0
KeepsJournal progress.New text = ⊥
KeepsJournal (progress.Legal auditor) text = KeepsText auditor text
KeepsJournal (progress.Bad line wrong) text = IsBadLine text line wrong

abbrev pub IsNew : Progress → Type 0
IsNew progress.New = ⊤
IsNew _ = ⊥

-- the next line is legal too, or none is judged any more; or it is the first that isn't legal
abbrev pub IsNext : JournalText → Line → Option AuditFault → Progress → Type 0
IsNext text line None progress = KeepsJournal progress (with_line text line)
IsNext text line (Some wrong) progress = IsBadLine (with_line text line) (length text.lines + length text.files + 2) wrong

-- ---- contents

-- the file had these contents at that version, or it had none
abbrev pub IsFound : List ℕ → ℕ → JournalText → Option (List ℕ) → Type 0
IsFound name version text (Some contents) = HadContents text name version contents
IsFound name version text None = (contents : List ℕ) → HadContents text name version contents → ⊥

-- the whole input is the text of a journal, and that is what the file had at that version
pub record IsFoundIn (left left' : Option (List ℕ)) (name : List ℕ) (version : ℕ) (found : Option (List ℕ)) : Type 0 where
  pub text : JournalText
  pub read : IsWholeInput left left' text
  pub found_is : IsFound name version text found

-- what was found in these lines
abbrev pub SeeksIn : List ℕ → ℕ → JournalText → Option (List ℕ) → Type 0
SeeksIn name version text (Some contents) = HadContents text name version contents
SeeksIn name version text None =
    ((contents : List ℕ) → StoodThere text name version contents → ⊥) × AllByRecursion (GivesNone name version) text.lines

pub record Seeks (sought : Sought) (text : JournalText) : Type 0 where
  pub first : sought.first ≡ text.first
  pub found : SeeksIn sought.name sought.version text sought.found
