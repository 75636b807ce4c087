-- The statuses of `audit` and `contents`, and their lines.
use Rattle.std.proofs.Common.{◌≡◌, ◌≢◌, ℕ, ◌<◌, List, ◌++◌, Option, length, codes, decimal, arith, inl, inr}
use Rattle.std.proofs.lemmas.List.{length-append}
use Rattle.outside.specs.Faults.{Rose}
use Rattle.journal_text.specs.declared.text.JournalText.{JournalText}
use Rattle.journal_audit.specs.Streams.{IsFound, IsFoundIn}
use Rattle.journal_audit.specs.declared.verdict.AuditFault.{AuditFault}
use Rattle.wopi_program.specs.declared.outside_world.Outside.{Outside}
use Rattle.wopi_program.specs.Audit.{AuditEnds, IsJudged, fault_line, fault_word, legal_line}
use Rattle.wopi_program.specs.Contents.{ContentsEnds, IsLookedUp}
use Rattle.wopi_program.specs.JournalRuns.{Takes, TakesJournal}
use Rattle.wopi_program.specs.Meanings.{Meanings}
use Rattle.wopi_program.proofs.EditLemmas.{tells-not-2}
use Rattle.wopi_program.proofs.EndLemmas.{noted}

-- ---- the lines have something in them

pub some_legal_line : (entries : ℕ) → 0 < length (legal_line entries)
some_legal_line entries = let n = length-append (codes "legal ") (decimal entries ++ codes "\n") in omega (arith, n)

pub some_fault_line : (number : ℕ) (wrong : AuditFault) → 0 < length (fault_line number wrong)
some_fault_line number wrong =
    let n = length-append (codes "line ") (decimal number ++ (codes ": " ++ (fault_word wrong ++ codes "\n"))) in omega (arith, n)

-- ---- no run ends as words that are no command

judged-not-2 : {K : Type 0} (held : K → Option (List ℕ)) (text : JournalText) (status : ℕ) (output output' : K) → IsJudged held text status output output' → status ≢ 2
judged-not-2 held text status output output' (inl wanting) two = let six = wanting.0 in absurd (omega (arith, six, two))
judged-not-2 held text status output output' (inr (inl legal)) two =
    tells-not-2 (held output) (held output') status 0 _ _ (λ is. absurd (omega (arith, is))) legal.1 two
judged-not-2 held text status output output' (inr (inr (number, wrong, bad, told))) two =
    tells-not-2 (held output) (held output') status 14 _ _ (λ is. absurd (omega (arith, is))) told two

looked_up-not-2 : {K : Type 0} (held : K → Option (List ℕ)) (name : List ℕ) (version : ℕ) (text : JournalText) (status : ℕ) (output output' : K) →
    IsLookedUp held name version text status output output' → status ≢ 2
looked_up-not-2 held name version text status output output' (inl (contents, had, inl (zero, whole))) two = absurd (omega (arith, zero, two))
looked_up-not-2 held name version text status output output' (inl (contents, had, inr (four, front))) two = absurd (omega (arith, four, two))
looked_up-not-2 held name version text status output output' (inr (fifteen, same, none)) two = absurd (omega (arith, fifteen, two))

looked_up-not-3 : {K : Type 0} (held : K → Option (List ℕ)) (name : List ℕ) (version : ℕ) (text : JournalText) (status : ℕ) (output output' : K) →
    IsLookedUp held name version text status output output' → status ≢ 3
looked_up-not-3 held name version text status output output' (inl (contents, had, inl (zero, whole))) three = absurd (omega (arith, zero, three))
looked_up-not-3 held name version text status output output' (inl (contents, had, inr (four, front))) three = absurd (omega (arith, four, three))
looked_up-not-3 held name version text status output output' (inr (fifteen, same, none)) three = absurd (omega (arith, fifteen, three))

module _ {S K F N D C G L : Type 0} (m : Meanings S K F N D C G L) where
  -- what became of a journal says nothing of the notes
  pub takes_noted : (Does : JournalText → ℕ → K → K → Type 0) (status : ℕ) (old new : Outside S K F N D C G) (notes : K) → TakesJournal m Does status old new
      → TakesJournal m Does status old (record new { notes = notes })
  takes_noted Does status old new notes h =
      record {
        takes = elim h.takes [
          | inl unrun ↦ inl (record { statuses = unrun.statuses; output_is = unrun.output_is })
          | inr (inl much) ↦ inr (inl (record { status_is = much.status_is; long = much.long; output_is = much.output_is }))
          | inr (inr (inl bad)) ↦ inr (inr (inl (record { number = bad.number; bad = bad.bad; told = bad.told })))
          | inr (inr (inr done)) ↦ inr (inr (inr (record { text = done.text; read = done.read; does = done.does })))
        ];
        read_cause = h.read_cause;
        read_cut = h.read_cut;
        read_fine = h.read_fine;
        write_cause = h.write_cause;
        others = noted _ _ notes h.others;
      }

  takes-not-2 : (Does : JournalText → ℕ → K → K → Type 0) → ((text : JournalText) (status : ℕ) (output output' : K) → Does text status output output' → status ≢ 2) →
      (status : ℕ) (old new : Outside S K F N D C G) → Takes m Does status old new → status ≢ 2
  takes-not-2 Does apart status old new (inl unrun) two = elim unrun.statuses [
    | inl three ↦ absurd (omega (arith, three, two))
    | inr six ↦ absurd (omega (arith, six, two))
  ]
  takes-not-2 Does apart status old new (inr (inl much)) two = let thirteen = much.status_is in absurd (omega (arith, thirteen, two))
  takes-not-2 Does apart status old new (inr (inr (inl bad))) two =
      tells-not-2 (m.held old.output) (m.held new.output) status 7 _ _ (λ is. absurd (omega (arith, is))) bad.told two
  takes-not-2 Does apart status old new (inr (inr (inr done))) two = apart done.text status old.output new.output done.does two

  -- what was found of a journal was written
  pub found_takes : (name : List ℕ) (version : ℕ) (found : Option (List ℕ)) (status : ℕ) (old new : Outside S K F N D C G) → IsFoundIn (m.left old.input) (m.left new.input) name version found
      → ((name : List ℕ) (version : ℕ) (text : JournalText) → IsFound name version text found → IsLookedUp m.held name version text status old.output new.output)
      → m.read_faults new.input ≡ m.read_faults old.input → (status ≡ 4 → Rose (m.write_faults old.output) (m.write_faults new.output))
      → new ≡ record old { input = new.input; output = new.output; notes = new.notes } → TakesJournal m (IsLookedUp m.held name version) status old new
  found_takes name version found status old new so gives fine cause others =
      let done = gives name version so.text so.found_is in
      let other : status ≢ 3 = looked_up-not-3 m.held name version so.text status old.output new.output done in
      record {
        takes = inr (inr (inr (record { text = so.text; read = so.read; does = done })));
        read_cause = λ three. absurd (other three);
        read_cut = λ three. absurd (other three);
        read_fine = λ apart. fine;
        write_cause = cause;
        others = others;
      }

  pub AuditEnds-known : (status : ℕ) (old new : Outside S K F N D C G) → AuditEnds m status old new → status ≢ 2
  AuditEnds-known status old new ends = takes-not-2 (IsJudged m.held) (judged-not-2 m.held) status old new ends.audits.takes

  pub ContentsEnds-known : (words : List (List ℕ)) (status : ℕ) (old new : Outside S K F N D C G) → ContentsEnds m words status old new → status ≢ 2
  ContentsEnds-known words status old new ends =
      takes-not-2 (IsLookedUp m.held ends.name ends.version) (looked_up-not-2 m.held ends.name ends.version) status old new ends.finds.takes
