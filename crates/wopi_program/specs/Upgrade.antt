-- What a run of `upgrade` promises. (Own.)
use Rattle.std.specs.Prelude.{◌≡◌, ◌≢◌, ◌⊎◌, ℕ, Bool, true, false, ◌==◌, ◌||◌, List, [], Option}
use Rattle.std.specs.Io.KnownBytes.{Appends}
use Rattle.outside.specs.Faults.{Rose}
use Rattle.outside.specs.Stream.{GrewByPrefix}
use Rattle.journal_text.specs.declared.text.Format.TheVariants.{Second}
use Rattle.journal_text.specs.declared.text.JournalText.{JournalText}
use Rattle.line_text.specs.Inputs.{HasRead}
use Rattle.journal_text.specs.Inputs.{IsBadInput, IsLong, AreFew, IsWholeInput}
use Rattle.journal_text.specs.Journals.{IsBadLine, IsReading, rows_of, text_of}
use Rattle.wopi_program.specs.declared.outside_world.Outside.{Outside}
use Rattle.wopi_program.specs.Meanings.{Meanings}
use Rattle.wopi_program.specs.Notes.{Notes, line_of}
use Rattle.wopi_program.specs.Edit.{Tells, bad_line, has_note}
use Rattle.wopi_program.specs.Replay.{IsNotRun}

-- The second form of the text went to the output: the whole at status 0, and at status 4 a front of it, where a write failed.
abbrev pub IsRewritten : JournalText → ℕ → Option (List ℕ) → Option (List ℕ) → Type 0
IsRewritten text status held held' =
    ((status ≡ 0) × Appends held held' (text_of (rows_of Second text))) ⊎ ((status ≡ 4) × GrewByPrefix held held' (text_of (rows_of Second text)))

-- the journal that the bytes are was written, or their first bad line was told, or memory was wanted before anything was written
abbrev pub Rewrites : {K : Type 0} → (K → Option (List ℕ)) → List ℕ → ℕ → K → K → Type 0
Rewrites held bytes status output output' =
    ((status ≡ 6) × (output' ≡ output))
    ⊎ (((number : ℕ) × IsBadLine bytes number × Tells (held output) (held output') status 7 [] (bad_line number))
    ⊎ ((text : JournalText) × IsReading bytes text × IsRewritten text status (held output) (held output')))

-- these statuses have a line on the notes
abbrev pub has_upgrade_note : ℕ → Bool
has_upgrade_note status = status == 13 || has_note status

abbrev pub NotesForUpgrade : {K : Type 0} → (K → Option (List ℕ)) → (K → ℕ) → ℕ → K → K → Type 0
NotesForUpgrade held count status old new =
    (has_upgrade_note status ≡ false → new ≡ old) × (has_upgrade_note status ≡ true → Notes (held old) (held new) (count old) (count new) (line_of status))

module _ {S K F N D C G L : Type 0} (m : Meanings S K F N D C G L) where
  -- The whole input is the text of this journal, and its second form was written.
  pub record IsUpgraded (status : ℕ) (old new : Outside S K F N D C G) : Type 0 where
    pub text : JournalText
    pub read : IsWholeInput (m.left old.input) (m.left new.input) text
    pub told : IsRewritten text status (m.held old.output) (m.held new.output)

  -- The input, which was read to its end, has its first bad line here.
  pub record IsBadJournal (status : ℕ) (old new : Outside S K F N D C G) : Type 0 where
    pub number : ℕ
    pub bad : IsBadInput (m.left old.input) (m.left new.input) number
    pub told : Tells (m.held old.output) (m.held new.output) status 7 [] (bad_line number)

  -- The input has more bytes than a journal: nothing was written.
  pub record IsTooLong (status : ℕ) (old new : Outside S K F N D C G) : Type 0 where
    pub status_is : status ≡ 13
    pub long : IsLong (m.left old.input) (m.left new.input)
    pub output_is : new.output ≡ old.output

  -- what became of the journal that the input is
  abbrev pub Upgrades : ℕ → Outside S K F N D C G → Outside S K F N D C G → Type 0
  Upgrades status old new = IsNotRun status old new ⊎ (IsTooLong status old new ⊎ (IsBadJournal status old new ⊎ IsUpgraded status old new))

  -- A run: what it did, the causes of the faults, the notes; and all else stays. A read of the input failed at status 3 alone, and there
  -- no more was read than a journal may have.
  pub record UpgradeEnds (status : ℕ) (old new : Outside S K F N D C G) : Type 0 where
    pub upgrades : Upgrades status old new
    pub read_cause : status ≡ 3 → Rose (m.read_faults old.input) (m.read_faults new.input)
    pub read_cut : status ≡ 3 → HasRead (m.left old.input) (m.left new.input) AreFew
    pub read_fine : status ≢ 3 → m.read_faults new.input ≡ m.read_faults old.input
    pub write_cause : status ≡ 4 → Rose (m.write_faults old.output) (m.write_faults new.output)
    pub notes : NotesForUpgrade m.held m.write_faults status old.notes new.notes
    pub others : new ≡ record old { input = new.input; output = new.output; notes = new.notes }
