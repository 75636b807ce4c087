-- Lines that a host may have written, one after another. (Own: the rules of histories and of merges, read over lines.)
use Rattle.std.specs.Prelude.{◌≡◌, ◌⊎◌, ⊤, ℕ, zero, suc, ◌+◌, ◌<◌, max, ◌==◌, List, [], ◌∷◌, length, Option, None, Some, if◌then◌else◌}
use Rattle.wopi_text.specs.FileName.{shard_of}
use Rattle.wopi_model.specs.declared.calls.Ruling.{Ruling}
use Rattle.wopi_model.specs.File.{File}
use Rattle.wopi_model.specs.Step.{IsOutcome}
use Rattle.wopi_model.specs.Shard.{Shard, Opening, Step, at_moment, happens, opened_shard}
use Rattle.wopi_model.specs.Host.{opening_of}
use Rattle.journal_text.specs.declared.text.Line.{Line}
use Rattle.journal_text.specs.declared.text.Format.{Format}
use Rattle.journal_text.specs.declared.text.JournalText.{JournalText}
use Rattle.journal_text.specs.Journals.{IsWithin}
use Rattle.journal_audit.specs.declared.verdict.AuditFault.{AuditFault}
use Rattle.journal_audit.specs.declared.verdict.AuditFault.TheVariants as fault
use Rattle.journal_audit.specs.Calls.{call_of, entry_of, said_by, said_of, told_ruling}

-- What lines go on from: the shards by number, with whatever locks and spent ids their files have, the stamp and the shard of
-- the last line, and the stamp of the last line of each pass, or 0.
pub record Begun : Type 0 where
  pub shards : ℕ → Shard
  pub last : Option (ℕ × ℕ)
  pub passes : ℕ → ℕ

-- a host over these opening files, before its first entry
abbrev pub opened_host : Opening → ℕ → ℕ → Begun
opened_host files opened first =
    record { shards = λ shard. opened_shard (opening_of shard files) opened first; last = None; passes = λ pass. 0 }

-- ---- one line

-- by stamp, and at one stamp by shard
abbrev pub IsBehind : Option (ℕ × ℕ) → Line → Type 0
IsBehind None line = ⊤
IsBehind (Some last) line = (last.0 < line.stamp) ⊎ ((last.0 ≡ line.stamp) × (last.1 < line.shard))

pub record IsOrdered (begun : Begun) (line : Line) : Type 0 where
  pub behind : IsBehind begun.last line
  pub own : line.shard ≡ shard_of line.name
  pub rises : begun.passes line.pass < line.stamp

-- the shard's time never falls, and goes on with what is handed in
abbrev pub IsTimedIn : Shard → Line → Type 0
IsTimedIn shard line = line.now ≡ max shard.now line.moment

-- status, lock, reason and version are those of an outcome of the step on the settled file
abbrev pub IsRuledOn : File → Line → ℕ → ℕ → Type 0
IsRuledOn file line opened now = (ruling : Ruling) × IsOutcome file (call_of line) opened now ruling × (said_of ruling ≡ said_by line)

abbrev pub IsRuledIn : Shard → Line → Type 0
IsRuledIn shard line =
    let at = at_moment shard line.moment in
    IsRuledOn (at.files line.name) line at.opened at.now

abbrev pub IsTimed : Begun → Line → Type 0
IsTimed begun line = IsTimedIn (begun.shards line.shard) line

abbrev pub IsRuled : Begun → Line → Type 0
IsRuled begun line = IsRuledIn (begun.shards line.shard) line

pub record MayCome (begun : Begun) (line : Line) : Type 0 where
  pub ordered : IsOrdered begun line
  pub timed : IsTimed begun line
  pub ruled : IsRuled begun line

-- what the line leaves: its shard after its entry, and the other shards as they were
abbrev pub behind_line : Begun → Line → Begun
behind_line begun line =
    record {
      shards = λ shard. if line.shard == shard then happens (begun.shards line.shard) (Step (entry_of line (told_ruling line))) else begun.shards shard;
      last = Some (line.stamp, line.shard);
      passes = λ pass. if line.pass == pass then line.stamp else begun.passes pass;
    }

-- ---- all lines

abbrev pub LegalLines : Begun → List Line → Type 0
LegalLines begun [] = ⊤
LegalLines begun (line ∷ lines) = MayCome begun line × LegalLines (behind_line begun line) lines

-- what lines leave
abbrev pub behind_lines : Begun → List Line → Begun
behind_lines begun [] = begun
behind_lines begun (line ∷ lines) = behind_lines (behind_line begun line) lines

-- the journal is one that a host may have written
abbrev pub LegalText : JournalText → Type 0
LegalText text = LegalLines (opened_host text.files text.opened text.first) text.lines

-- ---- the first line that isn't legal

-- what is wrong with a line, tested in this order
abbrev pub HasFault : Begun → Line → AuditFault → Type 0
HasFault begun line fault.Order = IsOrdered begun line → ⊥
HasFault begun line fault.Now = IsOrdered begun line × (IsTimed begun line → ⊥)
HasFault begun line fault.Ruling = IsOrdered begun line × IsTimed begun line × (IsRuled begun line → ⊥)

-- so many lines are legal, and the one behind them has that fault
abbrev pub IsBadAt : Begun → List Line → ℕ → AuditFault → Type 0
IsBadAt begun [] place wrong = ⊥
IsBadAt begun (line ∷ lines) zero wrong = HasFault begun line wrong
IsBadAt begun (line ∷ lines) (suc place) wrong = MayCome begun line × IsBadAt (behind_line begun line) lines place wrong

-- That is the first bad line of the journal, by its number in the second form: behind the first line and those of the opening files.
abbrev pub IsBadLine : JournalText → ℕ → AuditFault → Type 0
IsBadLine text number wrong =
    (place : ℕ) × (number ≡ place + length text.files + 2) × IsBadAt (opened_host text.files text.opened text.first) text.lines place wrong

-- the text keeps the bounds of a reading, as each that is read does
abbrev pub KeepsBounds : JournalText → Type 0
KeepsBounds text = (form : Format) × IsWithin form text
