-- What a run of `serve` promises that keeps logs.
use Rattle.std.specs.Prelude.{◌≡◌, ◌⊎◌, ⊤, ◌≤◌, ◌<◌, ◌+◌, ◌^◌, ◌==◌, ◌||◌, ℕ, Bool, true, false, if◌then◌else◌, List, [], ◌∷◌, ◌++◌, filter, length, map, Option, None, Some}
use Rattle.std.specs.List.{AllByRecursion, list_any}
use Rattle.outside.specs.Faults.{Rose, RoseBy}
use Rattle.outside.specs.Folder.{Keeps}
use Rattle.outside.specs.Log.{IsFront}
use Rattle.wopi_model.specs.Begin.{new_life}
use Rattle.wopi_model.specs.Host.{Limits}
use Rattle.wopi_model.specs.Shard.{Entry}
use Rattle.host_core.specs.declared.opening.StartFault.{StartFault}
use Rattle.host_core.specs.declared.opening.StartFault.TheVariants as fault
use Rattle.host_core.specs.Caller.{Extends}
use Rattle.host_core.specs.Entries.{Made, told_of}
use Rattle.host_core.specs.Times.{steps_of, last_time, IsTimely}
use Rattle.host_core.specs.Value.{Left, Agrees, state_of, is_torn, faults_in}
use Rattle.host_log.specs.Logs.{AreUnsaved, IsDoubt}
use Rattle.host_log.specs.Rows.{IsInDoubt, IsLog, opening_text}
use Rattle.host_table.specs.Journal.{JournalView}
use Rattle.host_table.specs.Start.{AreHanded, IsBlamed}
use Rattle.host_server.specs.declared.desk.Desk.{Desk}
use Rattle.host_server.specs.declared.working.WorkEnd.{WorkEnd}
use Rattle.host_server.specs.declared.working.WorkEnd.TheVariants as work
use Rattle.host_server.specs.Deeds.{made}
use Rattle.host_server.specs.Visits.{Visit, sures_of}
use Rattle.wopi_program.specs.declared.outside_world.Outside.{Outside}
use Rattle.wopi_program.specs.declared.serve_words.Keep.{Keep}
use Rattle.wopi_program.specs.declared.serve_words.ServeAsk.{ServeAsk}
use Rattle.wopi_program.specs.declared.serving.ServeEnd.{ServeEnd}
use Rattle.wopi_program.specs.declared.serving.ServeEnd.TheVariants as end
use Rattle.wopi_program.specs.Meanings.{Meanings}
use Rattle.wopi_program.specs.Journal.{IsJournal, AreWorkers}
use Rattle.wopi_program.specs.Serve.{Opens, end_after}
use Rattle.wopi_program.specs.Watched.{SawNearlyFull}
use Rattle.access_tokens.specs.declared.keys.Keys.{Keys}

-- the shards take any number of entries, and have places for so many held locks and ids that are refused
abbrev pub endless : ℕ → Limits
endless ids = record { calls = None; ids = ids }

abbrev pub is_lost : WorkEnd → Bool
is_lost work.Lost = true
is_lost _ = false

-- How a run ends, by whether a store of its was lost and by how its workers ended.
abbrev pub kept_end : Bool → List WorkEnd → ServeEnd
kept_end lost ends = if lost || list_any is_lost ends then end.JournalFault else end_after ends

-- A shard: its folder and its log before the run, what it leaves, whether its store was lost, and its folder and its log then.
pub record KeptShard (F G : Type 0) : Type 0 where
  pub folder : F
  pub log : G
  pub part : Left F
  pub lost : Bool
  pub folder' : F
  pub log' : G

module _ {F G : Type 0} where
  abbrev pub folder_before : KeptShard F G → F
  folder_before shard = shard.folder

  abbrev pub log_before : KeptShard F G → G
  log_before shard = shard.log

  abbrev pub part_in : KeptShard F G → Left F
  part_in shard = shard.part

  abbrev pub lost_in : KeptShard F G → Bool
  lost_in shard = shard.lost

  abbrev pub folder_after : KeptShard F G → F
  folder_after shard = shard.folder'

  abbrev pub log_after : KeptShard F G → G
  log_after shard = shard.log'

-- what a pass made that may be told begins with what the complete replies of its worker tell
abbrev pub AreSure : {L F : Type 0} → JournalView F → ℕ → List (List (Visit L)) → Type 0
AreSure journal number [] = ⊤
AreSure journal number (visits ∷ rest) =
    Extends (made (sures_of visits)) (told_of (filter (λ one. one.step.pass == number) journal.merge)) × AreSure journal (number + 1) rest

module _ {S K F N D C G L : Type 0} (m : Meanings S K F N D C G L) where
  -- where stores may be lost
  abbrev pub losing : Meanings S K F N D C G L
  losing = record m { work = record m.work { loses = true } }

  -- The shard of that number. Time went on with its entries alone. Its folder holds what these leave, but for names that are torn, and its count
  -- rose by each store call that failed, but for some that were refused once the log had failed.
  --
  -- The log grew by what the shard opened with and then by the lines of its entries, and had synced the first and each entry that changed the
  -- folder, or, where all changes are synced, anything. Once a call of it had failed it grew no more: there stands at most a front of one line more and of what takes it back, and the
  -- entries behind those that were told are missing, of which none is a save that was accepted. What may be told of the shard begins what was told to the log. The store is lost only
  -- where its log had failed, or had as many entries as are counted.
  pub record IsKept (every : Bool) (opened first number : ℕ) (shard : KeptShard F G) : Type 0 where
    pub timely : IsTimely opened shard.part.made
    pub holds : Agrees (Some number) (m.files shard.folder) (m.files shard.folder') (state_of (new_life shard.part.opening opened first) shard.part.made (last_time opened shard.part.made)).files (is_torn shard.part.made)
    pub failed : Bool
    pub refused : ℕ
    pub failures : RoseBy (m.folder_faults shard.folder) (faults_in shard.part.made) (m.folder_faults shard.folder' + refused)
    pub told : List Made
    pub missing : List Made
    pub made_are : shard.part.made ≡ told ++ missing
    pub unsaved : AreUnsaved missing
    pub tail : List ℕ
    pub log : IsLog every (m.log_held shard.log) (m.log_held shard.log') (m.log_synced shard.log') (opening_text number opened first shard.part.opening) told tail
    pub rest : List Entry
    pub sure : steps_of told ≡ told_of shard.part.made ++ rest
    pub fine : failed ≡ false → (refused ≡ 0) × (missing ≡ []) × (tail ≡ [])
    pub doubt : Option Made
    pub cut : failed ≡ true → IsInDoubt (opening_text number opened first shard.part.opening) told doubt tail × IsDoubt None missing doubt
    pub rose : failed ≡ true → Rose (m.log_faults shard.log) (m.log_faults shard.log')
    pub counts : m.log_faults shard.log ≤ m.log_faults shard.log'
    pub whole : shard.lost ≡ false → failed ≡ false
    pub cause : shard.lost ≡ true → (failed ≡ true) ⊎ (length shard.part.made ≡ 2 ^ 62)

  abbrev pub AreKept : Bool → ℕ → ℕ → ℕ → List (KeptShard F G) → Type 0
  AreKept every opened first number [] = ⊤
  AreKept every opened first number (shard ∷ shards) = IsKept every opened first number shard × AreKept every opened first (number + 1) shards

  -- A host was opened over the folders and the logs at the first clock's first moment, and its workers, of which number i has the i-th listener
  -- and clock and makes the entries of pass i, left these shards and ended so. The journal is what they made, as one history and by shards; no
  -- text of it is written. No entry is of another pass. What a worker's complete replies tell are entries that may be told.
  pub record HasKept (keys : Keys) (base : List ℕ) (origin : Option (List ℕ)) (ask : ServeAsk) (keep : Keep) (ends : List WorkEnd) (shards : List (KeptShard F G)) (journal : JournalView F) (old new : Outside S K F N D C G) : Type 0 where
    pub desk : Desk
    pub mid : List C
    pub visits : List (List (Visit L))
    pub keys_are : desk.keys ≡ keys
    pub base_is : desk.base ≡ base
    pub editor_is : desk.editor ≡ ask.editor
    pub origin_is : desk.origin ≡ origin
    pub opens : Opens m.work.moments desk.opened old.clocks.items mid
    pub journal_is : IsJournal m old.folders.items desk.opened ask.first journal
    pub whose : AllByRecursion (λ one. one.step.pass < length old.listeners.items) journal.merge
    pub folders_were : map folder_before shards ≡ old.folders.items
    pub logs_were : map log_before shards ≡ old.logs.items
    pub parts_are : map part_in shards ≡ journal.parts
    pub folders_are : map folder_after shards ≡ new.folders.items
    pub logs_are : map log_after shards ≡ new.logs.items
    pub kept : AreKept keep.syncs_all desk.opened ask.first 0 shards
    pub workers : AreWorkers losing desk (endless keep.ids) journal 0 visits ends old.listeners.items new.listeners.items mid new.clocks.items
    pub sure : AreSure journal 0 visits

  -- each log begins with what it held, and its count has not fallen
  abbrev pub AreGrown : List G → List G → Type 0
  AreGrown [] [] = ⊤
  AreGrown [] (new ∷ news) = ⊥
  AreGrown (old ∷ olds) [] = ⊥
  AreGrown (old ∷ olds) (new ∷ news) = IsFront (m.log_held old) (m.log_held new) × (m.log_faults old ≤ m.log_faults new) × AreGrown olds news

  -- each folder has what it had
  abbrev pub AreSame : List F → List F → Type 0
  AreSame [] [] = ⊤
  AreSame [] (new ∷ news) = ⊥
  AreSame (old ∷ olds) [] = ⊥
  AreSame (old ∷ olds) (new ∷ news) = Keeps (m.files old) (m.files new) × AreSame olds news

  -- the count of one of these logs rose
  abbrev pub HasFailed : List G → List G → Type 0
  HasFailed [] [] = ⊥
  HasFailed [] (new ∷ news) = ⊥
  HasFailed (old ∷ olds) [] = ⊥
  HasFailed (old ∷ olds) (new ∷ news) = Rose (m.log_faults old) (m.log_faults new) ⊎ HasFailed olds news

  -- What the notes are then is what they were, and what they were told of shards.
  module _ (keys : Keys) (base : List ℕ) (origin : Option (List ℕ)) (ask : ServeAsk) (keep : Keep) (notes : K) where
    -- they worked, and the notes were told of shards that were nearly full; the end is that which the stores and their ends make
    abbrev pub HasWorkedOut : ServeEnd → Outside S K F N D C G → Outside S K F N D C G → Type 0
    HasWorkedOut run_end old new =
        (journal : JournalView F) × (ends : List WorkEnd) × (shards : List (KeptShard F G)) × HasKept keys base origin ask keep ends shards journal old new
        × SawNearlyFull m.held m.write_faults (endless keep.ids) journal old.notes notes × (kept_end (list_any lost_in shards) ends ≡ run_end)

    -- no host was opened: nothing was told, the folders have what they had, and all but the first clock is as it was; a log may have grown
    abbrev pub HasOpenedNone : Outside S K F N D C G → Outside S K F N D C G → Type 0
    HasOpenedNone old new =
        (notes ≡ old.notes) × (new.listeners.items ≡ old.listeners.items) × AreSame old.folders.items new.folders.items × AreGrown old.logs.items new.logs.items
        × ((opened : ℕ) × Opens m.work.moments opened old.clocks.items new.clocks.items)

    -- and no log failed
    abbrev pub HasRefusedKeep : StartFault → Outside S K F N D C G → Outside S K F N D C G → Type 0
    HasRefusedKeep refusal old new =
        HasOpenedNone old new × AreHanded m.files m.folder_faults old.folders.items new.folders.items × IsBlamed m.files m.folder_faults old.folders.items new.folders.items refusal

    -- what a run did, by its end; one that wanted memory opened no host, or served; one whose log failed likewise
    abbrev pub KeepRuns : ServeEnd → Outside S K F N D C G → Outside S K F N D C G → Type 0
    KeepRuns end.Served old new = HasWorkedOut end.Served old new
    KeepRuns end.ListenerFault old new = HasWorkedOut end.ListenerFault old new
    KeepRuns end.JournalFault old new = (HasOpenedNone old new × HasFailed old.logs.items new.logs.items) ⊎ HasWorkedOut end.JournalFault old new
    KeepRuns end.WriteFault old new = ⊥
    KeepRuns end.Memory old new = HasRefusedKeep fault.Memory old new ⊎ HasWorkedOut end.Memory old new
    KeepRuns end.FolderFault old new = HasRefusedKeep fault.FolderFault old new
    KeepRuns (end.TooLarge name) old new = HasRefusedKeep (fault.TooLarge name) old new
