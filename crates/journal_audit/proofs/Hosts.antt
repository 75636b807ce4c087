-- The journal of a host is legal, and safe.
use Rattle.std.proofs.Common.{◌≡◌, ◌↔◌, ℕ, zero, suc, ◌+◌, ◌<◌, ◌≤◌, List, [], ◌∷◌, ◌++◌, length, refl, ap, sym, ◌∙◌, subst, arith}
use Rattle.std.specs.List.{AllByRecursion}
use Rattle.outside.specs.Folder.{Files}
use Rattle.std.specs.Prelude.{Option}
use Rattle.wopi_model.specs.Shard.{IsAllowed, opened_shard}
use Rattle.wopi_model.specs.Host.{opening_of, part_of}
use Rattle.wopi_model.specs.Safety.{KeepsContents, TellsWhy}
use Rattle.wopi_model.proofs.Conflicts.{tells_why}
use Rattle.wopi_model.proofs.Replacing.{Along-weaker, keeps_contents}
use Rattle.host_core.specs.Entries.{Made}
use Rattle.host_core.specs.Times.{IsTimely, steps_of}
use Rattle.host_core.specs.Value.{InMemory, Book, Left}
use Rattle.host_table.specs.Close.{AreEnded, Ends}
use Rattle.host_table.specs.Journal.{AreParts, JournalView, openings}
use Rattle.host_table.specs.Passes.{HostView, IsHost, PassView}
use Rattle.journal_text.specs.declared.text.Format.{Format}
use Rattle.journal_text.specs.declared.text.JournalText.{JournalText}
use Rattle.journal_text.specs.declared.text.Line.{Line}
use Rattle.journal_text.specs.Lines.{IsLine}
use Rattle.journal_text.specs.Told.{told_by}
use Rattle.journal_audit.specs.declared.verdict.AuditFault.{AuditFault}
use Rattle.journal_audit.specs.declared.verdict.AuditFault.TheVariants as fault
use Rattle.journal_audit.specs.Lines.{Begun, HasFault, IsBadAt, IsBadLine, KeepsBounds, LegalLines, LegalText, MayCome, behind_line, behind_lines, opened_host}
use Rattle.journal_audit.specs.Merges.{AreTimely, IsOfHost, IsSafe, made_in}
use Rattle.journal_audit.specs.Tracks.{IsSound}
use Rattle.journal_audit.proofs.Merges.{by_eq, goes_of, host_of, told_by_lines, told_lines}

-- ---- lines that go on, and bad ones

pub go_on : (begun : Begun) (front back : List Line) → LegalLines begun (front ++ back) ↔ (LegalLines begun front × LegalLines (behind_lines begun front) back)
go_on begun [] back = (λ h. (tt, h), λ h. h.1)
go_on begun (line ∷ front) back =
    let rest = go_on (behind_line begun line) front back in
    (λ h. let r = rest.0 h.1 in ((h.0, r.0), r.1), λ h. (h.0.0, rest.1 (h.0.1, h.1)))

no_fault : (begun : Begun) (line : Line) (wrong : AuditFault) → HasFault begun line wrong → MayCome begun line → ⊥
no_fault begun line fault.Order has may = has may.ordered
no_fault begun line fault.Now has may = has.1 may.timed
no_fault begun line fault.Ruling has may = has.2 may.ruled

pub bad_at : (begun : Begun) (lines : List Line) (place : ℕ) (wrong : AuditFault) → IsBadAt begun lines place wrong → LegalLines begun lines → ⊥
bad_at begun [] place wrong bad legal = bad
bad_at begun (line ∷ lines) zero wrong bad legal = no_fault begun line wrong bad legal.0
bad_at begun (line ∷ lines) (suc place) wrong bad legal = bad_at (behind_line begun line) lines place wrong bad.1 legal.1

same_fault : (begun : Begun) (line : Line) (one other : AuditFault) → HasFault begun line one → HasFault begun line other → one ≡ other
same_fault begun line fault.Order fault.Order h k = refl
same_fault begun line fault.Order fault.Now h k = absurd (h k.0)
same_fault begun line fault.Order fault.Ruling h k = absurd (h k.0)
same_fault begun line fault.Now fault.Order h k = absurd (k h.0)
same_fault begun line fault.Now fault.Now h k = refl
same_fault begun line fault.Now fault.Ruling h k = absurd (h.1 k.1)
same_fault begun line fault.Ruling fault.Order h k = absurd (k h.0)
same_fault begun line fault.Ruling fault.Now h k = absurd (k.1 h.1)
same_fault begun line fault.Ruling fault.Ruling h k = refl

one_bad : (begun : Begun) (lines : List Line) (place other : ℕ) (one wrong : AuditFault) → IsBadAt begun lines place one → IsBadAt begun lines other wrong → (place ≡ other) × (one ≡ wrong)
one_bad begun [] place other one wrong h k = absurd h
one_bad begun (line ∷ lines) zero zero one wrong h k = (refl, same_fault begun line one wrong h k)
one_bad begun (line ∷ lines) zero (suc other) one wrong h k = absurd (no_fault begun line one h k.0)
one_bad begun (line ∷ lines) (suc place) zero one wrong h k = absurd (no_fault begun line wrong k h.0)
one_bad begun (line ∷ lines) (suc place) (suc other) one wrong h k =
    let same = one_bad (behind_line begun line) lines place other one wrong h.1 k.1 in (ap suc same.0, same.1)

pub one_bad_line : (text : JournalText) (number other : ℕ) (one wrong : AuditFault) → IsBadLine text number one → IsBadLine text other wrong → (number ≡ other) × (one ≡ wrong)
one_bad_line text number other one wrong h k =
    let same = one_bad (opened_host text.files text.opened text.first) text.lines h.0 k.0 one wrong h.2 k.2 in
    (h.1 ∙ ap (λ n. n + length text.files + 2) same.0 ∙ sym k.1, same.1)

-- ---- journals that keep a reading's bounds

sound_lines : (form : Format) (lines : List Line) → AllByRecursion (IsLine form) lines → AllByRecursion IsSound lines
sound_lines form [] are = tt
sound_lines form (line ∷ lines) are = (record { shard = are.0.shard; now = are.0.now; contents = are.0.contents }, sound_lines form lines are.1)

pub all_sound : (text : JournalText) → KeepsBounds text → AllByRecursion IsSound text.lines
all_sound text keeps = sound_lines keeps.0 text.lines keeps.1.lines

pub tells_host : (text : JournalText) → KeepsBounds text → LegalText text ↔ ((made : List Made) × IsOfHost text made)
tells_host text keeps =
    let begun = opened_host text.files text.opened text.first in (
      λ legal.
          let told = told_by_lines begun text.lines (all_sound text keeps) legal in
          let legal_host = host_of text.files text.opened text.first told.0 told.2 in
          let times = told.2.times in
          (told.0, record { lines = told.1; legal = legal_host; times = times }),
      λ is.
          let host = is.1 in
          subst (λ (l : List Line). LegalLines begun l) (sym host.lines) (told_lines begun is.0 (goes_of text.files text.opened text.first is.0 host.legal host.times)),
    )

-- ---- a host's journal

module _ {F : Type 0} (files : F → Option Files) (faults : F → ℕ) where
  timely_from : (opened first shard n : ℕ) (merge : List Made) (bases : List (Book (InMemory F))) (parts : List (Left F)) (folders : List F) →
      AreParts merge shard parts → AreEnded files faults opened first bases parts folders → shard ≤ n → n < shard + length bases → IsTimely opened (made_in n merge)
  timely_from opened first shard n merge [] parts folders these ended le less = absurd (omega (arith, le, less))
  timely_from opened first shard n merge (base ∷ bases) [] [] these ended le less = absurd ended
  timely_from opened first shard n merge (base ∷ bases) [] (folder ∷ folders) these ended le less = absurd ended
  timely_from opened first shard n merge (base ∷ bases) (part ∷ parts) [] these ended le less = absurd ended
  timely_from opened first shard n merge (base ∷ bases) (part ∷ parts) (folder ∷ folders) these ended le less =
      by_eq shard n (λ b. IsTimely opened (made_in n merge))
      (λ e.
      let here : IsTimely opened part.made = ended.0.timely in
      subst (λ (l : List Made). IsTimely opened l) (these.0 ∙ ap (λ k. made_in k merge) e) here)
      (λ apart. timely_from opened first (shard + 1) n merge bases parts folders these.1 ended.1 (omega (arith, le, apart)) (omega (arith, less)))

  pub journal_is_legal : (host : HostView (InMemory F)) (passes : List (PassView (InMemory F))) (journal : JournalView F) (folders : List F) → IsHost host → Ends files faults host passes journal folders → LegalText (told_by journal)
  journal_is_legal host passes journal folders is ends =
      let many = is.many in
      let timely : AreTimely (λ shard. journal.opened) journal.merge = λ n small.
      subst (λ (t : ℕ). IsTimely t (made_in n journal.merge)) (sym ends.opened_is)
      (timely_from host.opened host.first 0 n journal.merge host.bases journal.parts folders ends.parts ends.ended (omega arith) (omega (arith, small, many))) in
      told_lines (opened_host (openings journal.parts) journal.opened journal.first) journal.merge
      (goes_of (openings journal.parts) journal.opened journal.first journal.merge ends.legal timely)

-- ---- what is safe

pub safe_host : (text : JournalText) (made : List Made) → IsOfHost text made → IsSafe text.files text.opened text.first made
safe_host text made is =
    record {
      contents = λ shard small. Along-weaker IsAllowed KeepsContents keeps_contents (opened_shard (opening_of shard text.files) text.opened text.first) (part_of shard (steps_of made)) (is.legal.shards shard small).allowed;
      conflicts = λ shard small. Along-weaker IsAllowed TellsWhy tells_why (opened_shard (opening_of shard text.files) text.opened text.first) (part_of shard (steps_of made)) (is.legal.shards shard small).allowed;
    }
