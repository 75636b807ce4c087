-- What a run of `edit` promises. (Own.)
use Rattle.std.specs.Prelude.{◌≡◌, ◌≢◌, ◌<◌, ◌⊎◌, ℕ, Bool, true, false, ◌==◌, ◌||◌, List, [], ◌++◌, length, Option, None, Result, Ok, Err, codes, decimal}
use Rattle.std.specs.Io.KnownBytes.{Appends, IsAtEnd}
use Rattle.outside.specs.Faults.{Rose, RoseBy}
use Rattle.outside.specs.declared.dialer.Exchange.{Exchange}
use Rattle.save_session.specs.declared.output.Outcome.TheVariants as outcome
use Rattle.save_session.specs.Session.{new_session}
use Rattle.save_session.specs.Views.{nonce_of, state_of}
use Rattle.wopi_client.specs.Talk.{Grew, lost_in}
use Rattle.grid_editor.specs.declared.command.Command as script
use Rattle.grid_editor.specs.declared.editor.Editor.{Editor}
use Rattle.grid_editor.specs.declared.turns.EditFault.{EditFault}
use Rattle.grid_editor.specs.declared.turns.EditFault.TheVariants as fault
use Rattle.grid_editor.specs.declared.turns.Went.{Went}
use Rattle.grid_editor.specs.declared.turns.Went.TheVariants.{On, Ended}
use Rattle.line_text.specs.Inputs.{HasRead}
use Rattle.grid_editor.specs.Inputs.{IsScript, IsBadScript, IsUndecided}
use Rattle.grid_editor.specs.Runs.{Runs}
use Rattle.grid_editor.specs.Views.{desktop_of, session_of, sheet_of}
use Rattle.wopi_program.specs.declared.outside_world.Outside.{Outside}
use Rattle.wopi_program.specs.Meanings.{Meanings}
use Rattle.wopi_program.specs.Notes.{Notes, line_of}
use Rattle.wopi_program.specs.EditWords.{IsEditRow}
use Rattle.wopi_program.specs.Telling.{Wants}

-- the status of how a script ended
abbrev pub status_of : Result Went EditFault → ℕ
status_of (Ok On) = 0
status_of (Ok (Ended outcome.NoAnswer)) = 9
status_of (Ok (Ended told)) = 8
status_of (Err (fault.BadReply at)) = 11
status_of (Err fault.WriteFault) = 4
status_of (Err fault.Memory) = 6

-- the line that a bad reply adds to those of the script
abbrev pub last_line : Result Went EditFault → List ℕ
last_line (Err (fault.BadReply at)) = codes "bad reply " ++ (decimal at ++ codes "\n")
last_line ended = []

-- the line of a script's first bad line
abbrev pub bad_line : ℕ → List ℕ
bad_line number = codes "line " ++ (decimal number ++ codes ": bad line\n")

-- the write of a last line failed after a front of it
abbrev pub IsCut : Option (List ℕ) → Option (List ℕ) → ℕ → List ℕ → List ℕ → Type 0
IsCut held held' status lines last = (status ≡ 4) × (front : List ℕ) × (rest : List ℕ) × (last ≡ front ++ rest) × Appends held held' (lines ++ front)

-- The output grew by these lines and a last one, at the wanted status. Only where there is a last one: at status 4 its write failed after a
-- front of it, and at status 6 there was no memory for it.
abbrev pub Tells : Option (List ℕ) → Option (List ℕ) → ℕ → ℕ → List ℕ → List ℕ → Type 0
Tells held held' status wanted lines last =
    ((status ≡ wanted) × Appends held held' (lines ++ last))
    ⊎ ((0 < length last) × (IsCut held held' status lines last ⊎ ((status ≡ 6) × Appends held held' lines)))

-- the words of an `edit`
pub record EditRow : Type 0 where
  pub authority : List ℕ
  pub file : List ℕ
  pub token : List ℕ
  pub nonce : List ℕ

-- the editor of these words, which has opened nothing yet
pub record IsNewEditor (editor : Editor) (row : EditRow) : Type 0 where
  pub authority_is : (desktop_of editor).authority ≡ row.authority
  pub file_is : (desktop_of editor).file ≡ row.file
  pub token_is : (desktop_of editor).token ≡ row.token
  pub nonce_is : nonce_of (session_of editor) ≡ row.nonce
  pub session_is : state_of (session_of editor) ≡ new_session
  pub sheet_is : sheet_of editor ≡ None

-- The input could not be read, or there was no memory for its script: nothing was sent or written.
pub record IsUnread {S K F N D C G : Type 0} (status : ℕ) (old new : Outside S K F N D C G) : Type 0 where
  pub statuses : (status ≡ 3) ⊎ (status ≡ 6)
  pub output_is : new.output ≡ old.output
  pub dialer_is : new.dialer ≡ old.dialer

-- only these statuses have a line on the notes
abbrev pub has_note : ℕ → Bool
has_note status = status == 3 || (status == 4 || status == 6)

abbrev pub NotesForEdit : {K : Type 0} → (K → Option (List ℕ)) → (K → ℕ) → ℕ → K → K → Type 0
NotesForEdit held count status old new =
    (has_note status ≡ false → new ≡ old) × (has_note status ≡ true → Notes (held old) (held new) (count old) (count new) (line_of status))

module _ {S K F N D C G L : Type 0} (m : Meanings S K F N D C G L) where
  -- An editor has run commands: what they did, the status of how they ended, and what went to the output and to the dialer.
  pub record HasRun (first : Editor) (commands : List script.Command) (status : ℕ) (old new : Outside S K F N D C G) : Type 0 where
    pub last : Editor
    pub result : Result Went EditFault
    pub written : List ℕ
    pub sent : List Exchange
    pub runs : Runs first commands last result written sent
    pub output : Tells (m.held old.output) (m.held new.output) status (status_of result) written (last_line result)
    pub exchanges : Grew (m.exchanges old.dialer) (m.exchanges new.dialer) sent
    pub lost : RoseBy (m.dialer_faults old.dialer) (lost_in sent) (m.dialer_faults new.dialer)

  -- The script was run: its commands are those of the whole input, which was read to its end.
  pub record IsRun (first : Editor) (status : ℕ) (old new : Outside S K F N D C G) : Type 0 where
    pub commands : List script.Command
    pub script : IsScript (m.left old.input) commands
    pub whole : IsAtEnd (m.left new.input)
    pub ran : HasRun first commands status old new

  -- The script has a bad line: nothing was sent.
  pub record IsRefused (status : ℕ) (old new : Outside S K F N D C G) : Type 0 where
    pub number : ℕ
    pub bad : IsBadScript (m.left old.input) number
    pub told : Tells (m.held old.output) (m.held new.output) status 7 [] (bad_line number)
    pub dialer_is : new.dialer ≡ old.dialer

  -- what became of the script that the input is
  abbrev pub Edits : Editor → ℕ → Outside S K F N D C G → Outside S K F N D C G → Type 0
  Edits first status old new = IsUnread status old new ⊎ (IsRefused status old new ⊎ IsRun first status old new)

  -- A run of the words: what it did, the causes of the faults, the notes; and all else stays. A read of the input failed at status 3
  -- alone, and there all that was read may still be the front of a script.
  pub record EditRan (words : List (List ℕ)) (status : ℕ) (old new : Outside S K F N D C G) : Type 0 where
    pub asked : EditRow
    pub first : Editor
    pub row : IsEditRow words asked.authority asked.file asked.token asked.nonce
    pub editor : IsNewEditor first asked
    pub edits : Edits first status old new
    pub read_cause : status ≡ 3 → Rose (m.read_faults old.input) (m.read_faults new.input)
    pub read_cut : status ≡ 3 → HasRead (m.left old.input) (m.left new.input) IsUndecided
    pub read_fine : status ≢ 3 → m.read_faults new.input ≡ m.read_faults old.input
    pub write_cause : status ≡ 4 → Rose (m.write_faults old.output) (m.write_faults new.output)
    pub notes : NotesForEdit m.held m.write_faults status old.notes new.notes
    pub others : new ≡ record old { input = new.input; output = new.output; notes = new.notes; dialer = new.dialer }

  abbrev pub EditEnds : List (List ℕ) → ℕ → Outside S K F N D C G → Outside S K F N D C G → Type 0
  EditEnds words status old new = Wants m status old new ⊎ EditRan words status old new
