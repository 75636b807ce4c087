-- What a run of `contents` promises. (Own.)
use Rattle.std.specs.Prelude.{◌≡◌, ◌≢◌, ◌⊎◌, ℕ, List, Option, codes}
use Rattle.std.specs.Io.KnownBytes.{Appends}
use Rattle.outside.specs.Stream.{GrewByPrefix}
use Rattle.journal_text.specs.declared.text.JournalText.{JournalText}
use Rattle.journal_audit.specs.Contents.{HadContents}
use Rattle.wopi_program.specs.declared.outside_world.Outside.{Outside}
use Rattle.wopi_program.specs.ContentsWords.{IsContentsRow}
use Rattle.wopi_program.specs.JournalRuns.{TakesJournal}
use Rattle.wopi_program.specs.Meanings.{Meanings}
use Rattle.wopi_program.specs.Notes.{Notes}
use Rattle.wopi_program.specs.Upgrade.{NotesForUpgrade}

-- the output grew by the contents at status 0, and at status 4 by a front of them, where a write failed
abbrev pub IsGivenOut : List ℕ → ℕ → Option (List ℕ) → Option (List ℕ) → Type 0
IsGivenOut contents status held held' = ((status ≡ 0) × Appends held held' contents) ⊎ ((status ≡ 4) × GrewByPrefix held held' contents)

-- The file had contents at that version, and they were written; or it had none, and nothing was written, at status 15.
abbrev pub IsLookedUp : {K : Type 0} → (K → Option (List ℕ)) → List ℕ → ℕ → JournalText → ℕ → K → K → Type 0
IsLookedUp held name version text status output output' =
    ((contents : List ℕ) × HadContents text name version contents × IsGivenOut contents status (held output) (held output'))
    ⊎ ((status ≡ 15) × (output' ≡ output) × ((contents : List ℕ) → HadContents text name version contents → ⊥))

-- what is said on the notes
abbrev pub NotesForContents : {K : Type 0} → (K → Option (List ℕ)) → (K → ℕ) → ℕ → K → K → Type 0
NotesForContents held count status old new =
    (status ≡ 15 → Notes (held old) (held new) (count old) (count new) (codes "no such version\n"))
    × (status ≢ 15 → NotesForUpgrade held count status old new)

-- a run: the file and the version of the words, what the input is, and, where that is a journal, what was found there; and the notes
pub record ContentsEnds {S K F N D C G L : Type 0} (m : Meanings S K F N D C G L) (words : List (List ℕ)) (status : ℕ) (old new : Outside S K F N D C G) : Type 0 where
  pub name : List ℕ
  pub version : ℕ
  pub row : IsContentsRow words name version
  pub finds : TakesJournal m (IsLookedUp m.held name version) status old new
  pub notes : NotesForContents m.held m.write_faults status old.notes new.notes
