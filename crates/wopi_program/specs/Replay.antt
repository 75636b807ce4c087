-- What a run of `replay` promises. (Own.)
use Rattle.std.specs.Prelude.{◌≡◌, ◌≢◌, ◌⊎◌, ℕ, List, [], Option}
use Rattle.std.specs.Io.KnownBytes.{Appends, IsAtEnd}
use Rattle.outside.specs.Faults.{Rose}
use Rattle.outside.specs.Stream.{GrewByPrefix}
use Rattle.wopi_model.specs.Shard.{AreNames}
use Rattle.wopi_world.specs.Safe.{IsSafe}
use Rattle.schedule_text.specs.Schedules.{Lines}
use Rattle.replay_cmd.specs.Runs.{setting_of, world_of}
use Rattle.schedule_text.specs.Generator.{generated}
use Rattle.line_text.specs.Inputs.{HasRead}
use Rattle.schedule_text.specs.Inputs.{IsBadInput, IsUndecided, IsWholeInput}
use Rattle.replay_cmd.specs.Trace.{summary_text, trace_text}
use Rattle.wopi_program.specs.declared.outside_world.Outside.{Outside}
use Rattle.wopi_program.specs.declared.replay_words.ReplayAsk.{ReplayAsk}
use Rattle.wopi_program.specs.declared.replay_words.ReplayAsk.TheVariants.{Input, Generated}
use Rattle.wopi_program.specs.Meanings.{Meanings}
use Rattle.wopi_program.specs.Edit.{NotesForEdit, Tells, bad_line}
use Rattle.wopi_program.specs.ReplayWords.{IsReplayRow}

-- The run of the lines is safe, and a text of it went to the output: the whole at status 0, and at status 4 a front of it, where a write
-- failed. The names are those that have a version at the run's end, each once, by their bytes.
pub record IsTold (text_of : List (List ℕ) → Lines → List ℕ) (lines : Lines) (status : ℕ) (held held' : Option (List ℕ)) : Type 0 where
  pub safe : IsSafe (setting_of lines) (world_of lines)
  pub names : List (List ℕ)
  pub names_are : AreNames (world_of lines).shard names
  pub told : ((status ≡ 0) × Appends held held' (text_of names lines)) ⊎ ((status ≡ 4) × GrewByPrefix held held' (text_of names lines))

-- The input could not be read, or memory was wanted: nothing was written.
pub record IsNotRun {S K F N D C G : Type 0} (status : ℕ) (old new : Outside S K F N D C G) : Type 0 where
  pub statuses : (status ≡ 3) ⊎ (status ≡ 6)
  pub output_is : new.output ≡ old.output

-- the text of the lines was told, or memory was wanted before anything was written
abbrev pub Replays : {K : Type 0} → (K → Option (List ℕ)) → (List (List ℕ) → Lines → List ℕ) → Lines → ℕ → K → K → Type 0
Replays held text_of lines status output output' = ((status ≡ 6) × (output' ≡ output)) ⊎ IsTold text_of lines status (held output) (held output')

module _ {S K F N D C G L : Type 0} (m : Meanings S K F N D C G L) where
  -- The input, which was read to its end, is these lines, and their trace was told.
  pub record IsTraced (status : ℕ) (old new : Outside S K F N D C G) : Type 0 where
    pub lines : Lines
    pub read : IsWholeInput (m.left old.input) lines
    pub whole : IsAtEnd (m.left new.input)
    pub told : IsTold trace_text lines status (m.held old.output) (m.held new.output)

  -- The input has its first bad line here, whatever follows it.
  pub record IsBad (status : ℕ) (old new : Outside S K F N D C G) : Type 0 where
    pub number : ℕ
    pub bad : IsBadInput (m.left old.input) number
    pub told : Tells (m.held old.output) (m.held new.output) status 7 [] (bad_line number)

  -- what became of the schedule that the input is
  abbrev pub InputReplays : ℕ → Outside S K F N D C G → Outside S K F N D C G → Type 0
  InputReplays status old new = IsNotRun status old new ⊎ (IsBad status old new ⊎ IsTraced status old new)

  -- what became of the schedule that was asked for; one that is made from two numbers leaves the input as it is
  abbrev pub AskReplays : ReplayAsk → ℕ → Outside S K F N D C G → Outside S K F N D C G → Type 0
  AskReplays Input status old new = InputReplays status old new
  AskReplays (Generated seed count) status old new =
      (new.input ≡ old.input) × Replays m.held summary_text (generated seed count) status old.output new.output

  -- A run of the words: what it did, the causes of the faults, the notes; and all else stays. A read of the input failed at status 3
  -- alone, and there all that was read may still be the front of a schedule.
  pub record ReplayEnds (words : List (List ℕ)) (status : ℕ) (old new : Outside S K F N D C G) : Type 0 where
    pub asked : ReplayAsk
    pub row : IsReplayRow words asked
    pub replays : AskReplays asked status old new
    pub read_cause : status ≡ 3 → Rose (m.read_faults old.input) (m.read_faults new.input)
    pub read_cut : status ≡ 3 → HasRead (m.left old.input) (m.left new.input) IsUndecided
    pub read_fine : status ≢ 3 → m.read_faults new.input ≡ m.read_faults old.input
    pub write_cause : status ≡ 4 → Rose (m.write_faults old.output) (m.write_faults new.output)
    pub notes : NotesForEdit m.held m.write_faults status old.notes new.notes
    pub others : new ≡ record old { input = new.input; output = new.output; notes = new.notes }
