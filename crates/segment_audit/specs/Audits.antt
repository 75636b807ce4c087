-- What an audit says of a segment. (Own.)
use Rattle.std.specs.Prelude.{◌≡◌, ◌↔◌, ⊤, ℕ, ◌+◌, Bool, true, false, List, length, Option, None, Some, if◌then◌else◌}
use Rattle.std.specs.Io.KnownBytes.{Consumes, IsAtEnd}
use Rattle.journal_text.specs.declared.text.Line.{Line}
use Rattle.journal_segments.specs.declared.rows.Head.{Head}
use Rattle.journal_segments.specs.declared.rows.Row.{Row}
use Rattle.journal_segments.specs.declared.state.State.{State}
use Rattle.journal_segments.specs.Told.{Told}
use Rattle.journal_segments.specs.Rows.{IsSegment, last_entry, segment_text, start, state_after}
use Rattle.segment_audit.specs.declared.auditing.SegmentAudit.{SegmentAudit}
use Rattle.segment_audit.specs.declared.auditing.Judge.{Judge}
use Rattle.segment_audit.specs.declared.verdict.RowFault.{RowFault}
use Rattle.segment_audit.specs.declared.verdict.RowFault.TheVariants as fault
use Rattle.segment_audit.specs.declared.verdict.SegmentVerdict.{SegmentVerdict}
use Rattle.segment_audit.specs.declared.verdict.SegmentVerdict.TheVariants as verdict
use Rattle.segment_audit.specs.Legal.{AreRight, IsBadAt, IsBadLine, IsLegalSegment, IsRuledAt, is_saved}

-- ---- what is said

abbrev pub IsVerdict : List ℕ → SegmentVerdict → Type 0
IsVerdict bytes verdict.Legal = IsLegalSegment bytes
IsVerdict bytes (verdict.Bad line wrong) = IsBadLine bytes line wrong

-- the bytes are a segment of that shard, with so many bytes of whole lines, and that is the verdict on it
pub record IsAuditOf (bytes : List ℕ) (audit : SegmentAudit) : Type 0 where
  pub head : Head
  pub rows : List Row
  pub tail : List ℕ
  pub segment : IsSegment bytes head rows tail
  pub shard_is : audit.shard ≡ head.shard
  pub used_is : audit.used ≡ length (segment_text head rows)
  pub judged : IsVerdict bytes audit.verdict
  pub legal : (audit.verdict ≡ verdict.Legal) ↔ IsLegalSegment bytes

-- the source was read to its end, and that is the audit of its bytes
pub record IsAudited (left left' : Option (List ℕ)) (audit : SegmentAudit) : Type 0 where
  pub bytes : List ℕ
  pub consumed : Consumes left left' bytes
  pub end : IsAtEnd left'
  pub audit_is : IsAuditOf bytes audit

-- ---- while the lines come

abbrev pub IsVerdictOn : Head → List Row → SegmentVerdict → Type 0
IsVerdictOn head rows verdict.Legal = AreRight (start head) rows
IsVerdictOn head rows (verdict.Bad line wrong) = (place : ℕ) × (line ≡ place + 2) × IsBadAt (start head) rows place wrong

-- these lines were judged
pub record HasJudged (judge : Judge) (head : Head) (rows : List Row) : Type 0 where
  pub saved_is : judge.saved ≡ is_saved (last_entry (state_after (start head) rows).pending)
  pub verdict_is : IsVerdictOn head rows judge.verdict

-- the line that was told last is an entry's that is an outcome, or none
abbrev pub IsRuledLast : Told → Option Line → Type 0
IsRuledLast told None = ⊤
IsRuledLast told (Some line) = IsRuledAt told line

-- the state behind a line shows that it is right, where it takes one back or doesn't, and that one was saved or wasn't
abbrev pub ShowsRight : Bool → Bool → State → Type 0
ShowsRight saved true state = saved ≡ true
ShowsRight saved false state = IsRuledLast state.told (last_entry state.pending)

abbrev pub fault_of : Bool → RowFault
fault_of back = if back then fault.TakenBack else fault.Ruling

abbrev pub ShowsFault : Bool → Bool → State → Option RowFault → Type 0
ShowsFault saved back state None = ShowsRight saved back state
ShowsFault saved back state (Some wrong) = (wrong ≡ fault_of back) × (ShowsRight saved back state → ⊥)

-- the first fault that is found stays
abbrev pub verdict_behind : SegmentVerdict → ℕ → Option RowFault → SegmentVerdict
verdict_behind verdict.Legal number None = verdict.Legal
verdict_behind verdict.Legal number (Some wrong) = verdict.Bad number wrong
verdict_behind (verdict.Bad line other) number wrong = verdict.Bad line other
