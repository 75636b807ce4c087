-- One verdict is said of a segment, and only the right one.
use Rattle.std.proofs.Common.{◌≡◌, ◌≢◌, ◌⊎◌, ◌↔◌, ℕ, zero, suc, ◌+◌, Bool, true, false, List, [], ◌∷◌, ◌++◌, length, Option, inl, inr, refl, ap, sym, ◌∙◌, subst, arith}
use Rattle.line_text.specs.Words.{IsRow}
use Rattle.journal_segments.specs.declared.rows.Head.{Head}
use Rattle.journal_segments.specs.declared.rows.Row.{Row}
use Rattle.journal_segments.specs.declared.rows.Row.TheVariants as row
use Rattle.journal_segments.specs.declared.state.State.{State}
use Rattle.journal_segments.specs.declared.reading.Restored.{Restored}
use Rattle.journal_segments.specs.Rows.{IsCutShort, IsSegment, start, step}
use Rattle.journal_segments.specs.Reading.{IsWatched}
use Rattle.journal_segments.proofs.Apart.{one_segment}
use Rattle.journal_segments.proofs.Stopped.{front_is_segment}
use Rattle.segment_audit.specs.declared.auditing.Judge.{Judge}
use Rattle.segment_audit.specs.declared.auditing.SegmentAudit.{SegmentAudit}
use Rattle.segment_audit.specs.declared.verdict.RowFault.{RowFault}
use Rattle.segment_audit.specs.declared.verdict.RowFault.TheVariants as fault
use Rattle.segment_audit.specs.declared.verdict.SegmentVerdict.{SegmentVerdict}
use Rattle.segment_audit.specs.declared.verdict.SegmentVerdict.TheVariants as verdict
use Rattle.segment_audit.specs.Legal.{AreRight, HasFault, IsBadAt, IsBadLine, IsLegalSegment, IsRight}
use Rattle.segment_audit.specs.Audits.{HasJudged, IsAuditOf, IsAudited, IsVerdict, IsVerdictOn}

-- ---- one line

right_or_wrong : (state : State) (one : Row) (wrong : RowFault) → IsRight state one → HasFault state one wrong → ⊥
right_or_wrong state (row.Entry line) fault.Ruling right bad = bad right
right_or_wrong state (row.Entry line) fault.TakenBack right bad = bad
right_or_wrong state row.Off fault.TakenBack right bad = bad right
right_or_wrong state row.Off fault.Ruling right bad = bad
right_or_wrong state (row.At name version size) wrong right bad = bad
right_or_wrong state (row.Held name lock) wrong right bad = bad
right_or_wrong state (row.Spent name one) wrong right bad = bad
right_or_wrong state (row.Holds name contents) wrong right bad = bad

one_fault : (state : State) (one : Row) (wrong other : RowFault) → HasFault state one wrong → HasFault state one other → wrong ≡ other
one_fault state (row.Entry line) fault.Ruling fault.Ruling bad worse = refl
one_fault state (row.Entry line) fault.Ruling fault.TakenBack bad worse = absurd worse
one_fault state (row.Entry line) fault.TakenBack other bad worse = absurd bad
one_fault state row.Off fault.TakenBack fault.TakenBack bad worse = refl
one_fault state row.Off fault.TakenBack fault.Ruling bad worse = absurd worse
one_fault state row.Off fault.Ruling other bad worse = absurd bad
one_fault state (row.At name version size) wrong other bad worse = absurd bad
one_fault state (row.Held name lock) wrong other bad worse = absurd bad
one_fault state (row.Spent name one) wrong other bad worse = absurd bad
one_fault state (row.Holds name contents) wrong other bad worse = absurd bad

-- ---- all lines

right_not_bad : (state : State) (rows : List Row) (place : ℕ) (wrong : RowFault) → AreRight state rows → IsBadAt state rows place wrong → ⊥
right_not_bad state [] place wrong right bad = bad
right_not_bad state (one ∷ rows) zero wrong right bad = right_or_wrong state one wrong right.0 bad
right_not_bad state (one ∷ rows) (suc place) wrong right bad = right_not_bad (step state one) rows place wrong right.1 bad.1

first_bad : (state : State) (rows : List Row) (place other : ℕ) (wrong also : RowFault) → IsBadAt state rows place wrong → IsBadAt state rows other also → (place ≡ other) × (wrong ≡ also)
first_bad state [] place other wrong also bad worse = absurd bad
first_bad state (one ∷ rows) zero zero wrong also bad worse = (refl, one_fault state one wrong also bad worse)
first_bad state (one ∷ rows) zero (suc other) wrong also bad worse = absurd (right_or_wrong state one wrong worse.0 bad)
first_bad state (one ∷ rows) (suc place) zero wrong also bad worse = absurd (right_or_wrong state one also bad.0 worse)
first_bad state (one ∷ rows) (suc place) (suc other) wrong also bad worse =
    let same = first_bad (step state one) rows place other wrong also bad.1 worse.1 in (ap (λ (n : ℕ). suc n) same.0, same.1)

pub bad_not_legal : (bytes : List ℕ) (line : ℕ) (wrong : RowFault) → IsBadLine bytes line wrong → IsLegalSegment bytes → ⊥
bad_not_legal bytes line wrong bad legal =
    let same = one_segment bytes legal.head bad.head legal.rows bad.rows legal.tail bad.tail legal.segment bad.segment in
    let P : Head × List Row → Type 0 = λ p. AreRight (start p.0) p.1 in
    right_not_bad (start bad.head) bad.rows bad.place wrong (subst P (λ i. (same.0 i, same.1 i)) legal.right) bad.bad

pub one_bad_line : (bytes : List ℕ) (line other : ℕ) (wrong also : RowFault) → IsBadLine bytes line wrong → IsBadLine bytes other also → (line ≡ other) × (wrong ≡ also)
one_bad_line bytes line other wrong also bad worse =
    let same = one_segment bytes bad.head worse.head bad.rows worse.rows bad.tail worse.tail bad.segment worse.segment in
    let P : Head × List Row → Type 0 = λ p. IsBadAt (start p.0) p.1 bad.place wrong in
    let one = first_bad (start worse.head) worse.rows bad.place worse.place wrong also (subst P (λ i. (same.0 i, same.1 i)) bad.bad) worse.bad in
    (bad.line_is ∙ ap (λ (n : ℕ). n + 2) one.0 ∙ sym worse.line_is, one.1)

-- ---- what was cut off

right_front : (state : State) (rows more : List Row) → AreRight state (rows ++ more) → AreRight state rows
right_front state [] more right = tt
right_front state (one ∷ rows) more right = (right.0, right_front (step state one) rows more right.1)

front_legal : (front : List ℕ) (head : Head) (rows : List Row) → AreRight (start head) rows → IsCutShort front head rows → IsLegalSegment front
front_legal front head rows right short =
    record {
      head = head;
      rows = short.kept;
      tail = short.tail;
      segment = short.segment;
      right = right_front (start head) short.kept short.lost (subst (AreRight (start head)) short.rows_are right);
    }

pub front_is_legal : (bytes front rest : List ℕ) → IsLegalSegment bytes → bytes ≡ front ++ rest → IsRow front ⊎ IsLegalSegment front
front_is_legal bytes front rest legal is =
    elim (front_is_segment bytes front rest legal.head legal.rows legal.tail legal.segment is) as (λ _. IsRow front ⊎ IsLegalSegment front) [
      | inl row ↦ inl row
      | inr short ↦ inr (front_legal front legal.head legal.rows legal.right short)
    ]

-- ---- what is said of a segment

said : (bytes : List ℕ) (head : Head) (rows : List Row) (tail : List ℕ) (says : SegmentVerdict) → IsSegment bytes head rows tail → IsVerdictOn head rows says → IsVerdict bytes says
said bytes head rows tail verdict.Legal segment on = record { head = head; rows = rows; tail = tail; segment = segment; right = on }
said bytes head rows tail (verdict.Bad line wrong) segment on =
    record { head = head; rows = rows; tail = tail; segment = segment; place = on.0; line_is = on.1; bad = on.2 }

legal_said : (bytes : List ℕ) (says : SegmentVerdict) → IsVerdict bytes says → IsLegalSegment bytes → says ≡ verdict.Legal
legal_said bytes verdict.Legal is legal = refl
legal_said bytes (verdict.Bad line wrong) is legal = absurd (bad_not_legal bytes line wrong is legal)

pub audited : (left left' : Option (List ℕ)) (read : Restored) (judge : Judge) (audit : SegmentAudit) → IsWatched HasJudged left left' read judge → audit.shard ≡ read.shard → audit.used ≡ read.used →
    audit.verdict ≡ judge.verdict → IsAudited left left' audit
audited left left' read judge audit watched shard used is =
    let ends = watched.restored.ends in
    let bytes = watched.restored.bytes in
    let on : IsVerdictOn ends.head ends.rows audit.verdict = subst (IsVerdictOn ends.head ends.rows) (sym is) watched.seen_are.verdict_is in
    let judged : IsVerdict bytes audit.verdict = said bytes ends.head ends.rows ends.tail audit.verdict ends.segment on in
    record {
      bytes = bytes;
      consumed = watched.restored.consumed;
      end = watched.restored.end;
      audit_is = record {
        head = ends.head;
        rows = ends.rows;
        tail = ends.tail;
        segment = ends.segment;
        shard_is = shard ∙ ends.shard_is;
        used_is = used ∙ ends.used_is;
        judged = judged;
        legal = (λ legal. subst (IsVerdict bytes) legal judged, λ legal. legal_said bytes audit.verdict judged legal);
      };
    }

pub fresh : (judge : Judge) → judge.saved ≡ false → judge.verdict ≡ verdict.Legal → (head : Head) → HasJudged judge head []
fresh judge saved is head = record { saved_is = saved; verdict_is = subst (IsVerdictOn head []) (sym is) tt }
