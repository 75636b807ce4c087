-- What runs promise that read a journal from the input. (Own.)
use Rattle.std.specs.Prelude.{◌≡◌, ◌≢◌, ◌⊎◌, ℕ}
use Rattle.outside.specs.Faults.{Rose}
use Rattle.line_text.specs.Inputs.{HasRead}
use Rattle.journal_text.specs.declared.text.JournalText.{JournalText}
use Rattle.journal_text.specs.Inputs.{AreFew, IsWholeInput}
use Rattle.wopi_program.specs.declared.outside_world.Outside.{Outside}
use Rattle.wopi_program.specs.Meanings.{Meanings}
use Rattle.wopi_program.specs.Replay.{IsNotRun}
use Rattle.wopi_program.specs.Upgrade.{IsBadJournal, IsTooLong}

module _ {S K F N D C G L : Type 0} (m : Meanings S K F N D C G L) (Does : JournalText → ℕ → K → K → Type 0) where
  -- The whole input is the text of this journal, and that was done with it.
  pub record IsDone (status : ℕ) (old new : Outside S K F N D C G) : Type 0 where
    pub text : JournalText
    pub read : IsWholeInput (m.left old.input) (m.left new.input) text
    pub does : Does text status old.output new.output

  -- what became of the journal that the input is
  abbrev pub Takes : ℕ → Outside S K F N D C G → Outside S K F N D C G → Type 0
  Takes status old new = IsNotRun status old new ⊎ (IsTooLong m status old new ⊎ (IsBadJournal m status old new ⊎ IsDone status old new))

  -- What was done, the causes of the faults, and all but the notes stays. A read of the input failed at status 3 alone, and there no more
  -- was read than a journal may have.
  pub record TakesJournal (status : ℕ) (old new : Outside S K F N D C G) : Type 0 where
    pub takes : Takes status old new
    pub read_cause : status ≡ 3 → Rose (m.read_faults old.input) (m.read_faults new.input)
    pub read_cut : status ≡ 3 → HasRead (m.left old.input) (m.left new.input) AreFew
    pub read_fine : status ≢ 3 → m.read_faults new.input ≡ m.read_faults old.input
    pub write_cause : status ≡ 4 → Rose (m.write_faults old.output) (m.write_faults new.output)
    pub others : new ≡ record old { input = new.input; output = new.output; notes = new.notes }
