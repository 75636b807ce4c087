-- What is said of lines, one more at a time.
use Rattle.std.proofs.Common.{◌≡◌, ◌≢◌, ℕ, zero, suc, ◌+◌, Bool, true, false, List, [], ◌∷◌, ◌++◌, length, Option, None, Some, refl, ap, sym, ◌∙◌, subst, arith}
use Rattle.journal_segments.specs.declared.rows.Head.{Head}
use Rattle.journal_segments.specs.declared.rows.Row.{Row}
use Rattle.journal_segments.specs.declared.rows.Row.TheVariants as row
use Rattle.journal_segments.specs.declared.state.Pending.{Pending}
use Rattle.journal_segments.specs.declared.state.Pending.TheVariants as pending
use Rattle.journal_segments.specs.declared.state.State.{State}
use Rattle.journal_text.specs.declared.text.Line.{Line}
use Rattle.wopi_model.specs.declared.locks.Lock.{Lock}
use Rattle.wopi_model.specs.declared.locks.Spent.{Spent}
use Rattle.journal_segments.specs.Told.{Told}
use Rattle.journal_segments.specs.Rows.{MayCome, MayHold, MaySpend, last_entry, pending_held, pending_spent, start, state_after, step}
use Rattle.journal_segments.specs.Seen.{IsNext, is_off}
use Rattle.journal_segments.proofs.Going.{state-append}
use Rattle.segment_audit.specs.declared.auditing.Judge.{Judge}
use Rattle.segment_audit.specs.declared.verdict.RowFault.{RowFault}
use Rattle.segment_audit.specs.declared.verdict.RowFault.TheVariants as fault
use Rattle.segment_audit.specs.declared.verdict.SegmentVerdict.{SegmentVerdict}
use Rattle.segment_audit.specs.declared.verdict.SegmentVerdict.TheVariants as verdict
use Rattle.segment_audit.specs.Legal.{AreRight, HasFault, IsBadAt, IsRight, is_saved}
use Rattle.segment_audit.specs.Audits.{HasJudged, IsRuledLast, IsVerdictOn, ShowsFault, verdict_behind}

-- ---- one line

-- it is right, or has that fault
abbrev pub Says : State → Row → Option RowFault → Type 0
Says at one None = IsRight at one
Says at one (Some wrong) = HasFault at one wrong

held_none : (last : Pending) (name : List ℕ) (lock : Lock) → MayHold last name → last_entry (pending_held last lock) ≡ None
held_none pending.Start name lock may = refl
held_none (pending.File own place) name lock may = refl
held_none (pending.Entry line) name lock may = absurd may
held_none pending.Done name lock may = refl

spent_none : (last : Pending) (name : List ℕ) (one : Spent) → MaySpend last name → last_entry (pending_spent last one) ≡ None
spent_none pending.Start name one may = refl
spent_none (pending.File own place) name one may = refl
spent_none (pending.Entry line) name one may = absurd may
spent_none pending.Done name one may = refl

-- where no entry was told there is nothing to be said
nothing_said : (told : Told) (last : Option Line) → last ≡ None → IsRuledLast told last
nothing_said told None e = tt
nothing_said told (Some line) e = absurd (cc e)

not_both : fault.TakenBack ≢ fault.Ruling
not_both e = absurd (cc e)

entry_says : (at : State) (line : Line) (saved : Bool) (wrong : Option RowFault) → ShowsFault saved false (step at (row.Entry line)) wrong → Says at (row.Entry line) wrong
entry_says at line saved None shows = shows
entry_says at line saved (Some fault.Ruling) shows = shows.1
entry_says at line saved (Some fault.TakenBack) shows = absurd (not_both shows.0)

off_says : (at : State) (saved : Bool) (wrong : Option RowFault) → saved ≡ is_saved (last_entry at.pending) → ShowsFault saved true (step at row.Off) wrong → Says at row.Off wrong
off_says at saved None is shows = sym is ∙ shows
off_says at saved (Some fault.TakenBack) is shows = λ h. shows.1 (is ∙ h)
off_says at saved (Some fault.Ruling) is shows = absurd (not_both (sym shows.0))

pub says_line : (at : State) (one : Row) (saved : Bool) (wrong : Option RowFault) → MayCome at one → saved ≡ is_saved (last_entry at.pending) → ShowsFault saved (is_off one) (step at one) wrong → Says at one wrong
says_line at (row.Entry line) saved wrong may is shows = entry_says at line saved wrong shows
says_line at row.Off saved wrong may is shows = off_says at saved wrong is shows
says_line at (row.At name version size) saved None may is shows = tt
says_line at (row.At name version size) saved (Some wrong) may is shows = absurd (shows.1 tt)
says_line at (row.Held name lock) saved None may is shows = tt
says_line at (row.Held name lock) saved (Some wrong) may is shows = absurd (shows.1 (nothing_said at.told (last_entry (pending_held at.pending lock)) (held_none at.pending name lock may)))
says_line at (row.Spent name one) saved None may is shows = tt
says_line at (row.Spent name one) saved (Some wrong) may is shows = absurd (shows.1 (nothing_said at.told (last_entry (pending_spent at.pending one)) (spent_none at.pending name one may)))
says_line at (row.Holds name contents) saved None may is shows = tt
says_line at (row.Holds name contents) saved (Some wrong) may is shows = absurd (shows.1 tt)

-- ---- lines that grow

pub right_more : (state : State) (rows : List Row) (one : Row) → AreRight state rows → IsRight (state_after state rows) one → AreRight state (rows ++ one ∷ [])
right_more state [] one are is = (is, tt)
right_more state (first ∷ rows) one are is = (are.0, right_more (step state first) rows one are.1 is)

pub bad_here : (state : State) (rows : List Row) (one : Row) (wrong : RowFault) → AreRight state rows → HasFault (state_after state rows) one wrong → IsBadAt state (rows ++ one ∷ []) (length rows) wrong
bad_here state [] one wrong are is = is
bad_here state (first ∷ rows) one wrong are is = (are.0, bad_here (step state first) rows one wrong are.1 is)

pub bad_more : (state : State) (rows more : List Row) (place : ℕ) (wrong : RowFault) → IsBadAt state rows place wrong → IsBadAt state (rows ++ more) place wrong
bad_more state [] more place wrong bad = absurd bad
bad_more state (first ∷ rows) more zero wrong bad = bad
bad_more state (first ∷ rows) more (suc place) wrong bad = (bad.0, bad_more (step state first) rows more place wrong bad.1)

verdict_more : (head : Head) (rows : List Row) (one : Row) (number : ℕ) (old : SegmentVerdict) (wrong : Option RowFault) → number ≡ length rows + 2 → Says (state_after (start head) rows) one wrong →
    IsVerdictOn head rows old → IsVerdictOn head (rows ++ one ∷ []) (verdict_behind old number wrong)
verdict_more head rows one number verdict.Legal None is says on = right_more (start head) rows one on says
verdict_more head rows one number verdict.Legal (Some wrong) is says on = (length rows, is, bad_here (start head) rows one wrong on says)
verdict_more head rows one number (verdict.Bad line other) wrong is says on = (on.0, on.1, bad_more (start head) rows (one ∷ []) on.0 other on.2)

pub judged_more : (old new : Judge) (head : Head) (rows : List Row) (one : Row) (number : ℕ) (back : Bool) (state : State) (wrong : Option RowFault) → IsNext head rows one number back state →
    ShowsFault old.saved back state wrong → new.saved ≡ is_saved (last_entry state.pending) → new.verdict ≡ verdict_behind old.verdict number wrong → HasJudged old head rows → HasJudged new head (rows ++ one ∷ [])
judged_more old new head rows one number back state wrong next shows saved is judged =
    let at = state_after (start head) rows in
    let end : state ≡ state_after (start head) (rows ++ one ∷ []) = next.state_is ∙ sym (state-append (start head) rows (one ∷ [])) in
    let P : Bool × State → Type 0 = λ p. ShowsFault old.saved p.0 p.1 wrong in
    let shown : ShowsFault old.saved (is_off one) (step at one) wrong = subst P (λ i. (next.back_is i, next.state_is i)) shows in
    let says = says_line at one old.saved wrong next.comes judged.saved_is shown in
    record {
      saved_is = saved ∙ ap (λ (s : State). is_saved (last_entry s.pending)) end;
      verdict_is = subst (IsVerdictOn head (rows ++ one ∷ [])) (sym is) (verdict_more head rows one number old.verdict wrong next.number_is says judged.verdict_is);
    }
