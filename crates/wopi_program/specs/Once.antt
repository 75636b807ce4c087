-- What a run of `once` promises.
use Rattle.std.specs.Prelude.{◌≡◌, ◌≢◌, ◌⊎◌, ◌≤◌, ⊤, ℕ, Bool, false, List, [], ◌∷◌, ◌++◌, map, Option, None, codes}
use Rattle.outside.specs.Faults.{Rose}
use Rattle.outside.specs.Clock.{Gives}
use Rattle.outside.specs.Folder.{Keeps}
use Rattle.wopi_text.specs.Ids.{id_of}
use Rattle.wopi_model.specs.Begin.{new_life}
use Rattle.wopi_model.specs.Host.{kept_limits}
use Rattle.wopi_model.specs.Shard.{Opening, Step, Legal}
use Rattle.host_core.specs.declared.opening.StartFault.{StartFault}
use Rattle.host_core.specs.declared.opening.StartFault.TheVariants as start
use Rattle.host_core.specs.Value.{Book, InMemory, IsLawful}
use Rattle.host_core.specs.Opening.{IsOpening, Fits, IsTooLarge, AreDatesOf}
use Rattle.host_core.specs.Single.{sight_of, SeesItsOwn}
use Rattle.host_server.specs.declared.desk.Desk.{Desk}
use Rattle.host_server.specs.declared.connection.ConnEnd.{ConnEnd}
use Rattle.host_server.specs.declared.connection.ConnEnd.TheVariants as conn
use Rattle.host_server.specs.Connection.{Serves}
use Rattle.host_server.specs.Deeds.{made}
use Rattle.wopi_program.specs.declared.outside_world.Outside.{Outside}
use Rattle.wopi_program.specs.declared.once.OnceEnd.{OnceEnd}
use Rattle.wopi_program.specs.declared.once.OnceEnd.TheVariants.{Served, FolderFault, TooLarge, Memory}
use Rattle.wopi_program.specs.EditorWords.{origin_told}
use Rattle.wopi_program.specs.Files.{AreShownIn}
use Rattle.wopi_program.specs.Meanings.{Meanings}
use Rattle.wopi_program.specs.Notes.{Notes, NotesFor}
use Rattle.wopi_program.specs.Words.{IsOnceRow}
use Rattle.wopi_program.specs.Telling.{Wants}
use Rattle.access_tokens.specs.declared.keys.Keys.{Keys}

-- the status of a connection's end
abbrev pub status_of : ConnEnd → ℕ
status_of conn.Done = 0
status_of conn.ReadFault = 3
status_of conn.WriteFault = 4
status_of conn.Lost = 16
status_of conn.Memory = 6

-- how a run ends where no shard was opened
abbrev pub end_of : StartFault → OnceEnd
end_of start.FolderFault = FolderFault
end_of (start.TooLarge name) = TooLarge name
end_of start.Memory = Memory

unfoldable pub too_large_line : List ℕ → List ℕ
too_large_line name = codes "folder too large " ++ (id_of name ++ codes "\n")

-- the status and the notes of a folder that is too large; the line may want memory
abbrev pub TooLargeEnds : {K : Type 0} → (K → Option (List ℕ)) → (K → ℕ) → ℕ → K → K → List ℕ → Type 0
TooLargeEnds held count status old new name =
    ((status ≡ 12) × Notes (held old) (held new) (count old) (count new) (too_large_line name)) ⊎ ((status ≡ 6) × NotesFor held count 6 old new)

-- the status and the notes of a run's end
abbrev pub Finishes : {K : Type 0} → (K → Option (List ℕ)) → (K → ℕ) → ℕ → K → K → OnceEnd → Type 0
Finishes held count status old new (Served end) = (status ≡ status_of end) × NotesFor held count status old new
Finishes held count status old new FolderFault = (status ≡ 5) × NotesFor held count status old new
Finishes held count status old new (TooLarge name) = TooLargeEnds held count status old new name
Finishes held count status old new Memory = (status ≡ 6) × NotesFor held count status old new

-- where no connection was served the streams stay as they were
abbrev pub Untouched : {S K F N D C G : Type 0} → OnceEnd → Outside S K F N D C G → Outside S K F N D C G → Type 0
Untouched (Served end) old new = ⊤
Untouched end old new = (new.input ≡ old.input) × (new.output ≡ old.output)

-- a shard, over the folder of its store
abbrev pub over_folder : {F : Type 0} → Book (InMemory F) → Book F
over_folder book = record {
  only = book.only;
  begin = book.begin;
  limits = book.limits;
  dates = book.dates;
  made = book.made;
  time = book.time;
  ticked = book.ticked;
  start = book.start.folder;
  folder = book.folder.folder;
}

module _ {S K F N D C G L : Type 0} (m : Meanings S K F N D C G L) where
  -- A shard that was opened over a folder at a moment: these files, at version 1, last saved when the folder tells, and no entry yet.
  pub record IsFresh (folder : F) (stood : Opening) (opened : ℕ) (first : Book F) : Type 0 where
    pub book : first ≡ record {
      only = None;
      begin = new_life stood opened 1;
      limits = kept_limits 4096;
      dates = first.dates;
      made = [];
      time = opened;
      ticked = false;
      start = folder;
      folder = first.folder;
    }
    pub opening : IsOpening None (m.files folder) stood
    pub fits : Fits stood
    pub dated : map (λ one. one.0) first.dates ≡ map (λ one. one.0) first.begin.files
    pub told : AreDatesOf (m.times folder) first.dates

  -- A connection was served over a shard that began as `first`, and no store was lost. What was done is what the shard has come to; its history is legal, its folder
  -- agrees with it, and each answer of a store fault has raised the folder's count.
  pub record ServesShard (desk : Desk) (end : ConnEnd) (first : Book F) (folder : F) (clock clock' : C) (old new : Outside S K F N D C G) : Type 0 where
    pub last : Book F
    pub serves : Serves desk SeesItsOwn end (m.left old.input) (m.left new.input) (m.work.moments clock) (m.work.moments clock') (sight_of first) (sight_of last) (m.held old.output) (m.held new.output)
    pub start : last.start ≡ first.start
    pub only : last.only ≡ None
    pub lawful : IsLawful last (m.files last.start) (m.files last.folder) (m.folder_faults last.start) (m.folder_faults last.folder)
    pub folder_is : folder ≡ last.folder
    pub kept : end ≢ conn.Lost

  -- The clock's first moment opened the shard, and the connection was served by its later ones. The entries that were made are
  -- legal by themselves, from the opening: nobody set the shard's time beside them. Each listing shows the shard after those before it.
  pub record OpensAndServes (keys : Keys) (base : List ℕ) (editor : Bool) (origin : Option (List ℕ)) (end : ConnEnd) (folder folder' : F) (clock clock' : C) (old new : Outside S K F N D C G) : Type 0 where
    pub desk : Desk
    pub mid : C
    pub first : Book F
    pub keys_are : desk.keys ≡ keys
    pub base_is : desk.base ≡ base
    pub editor_is : desk.editor ≡ editor
    pub origin_is : desk.origin ≡ origin
    pub times : Gives (m.work.moments clock) (m.work.moments mid) desk.opened
    pub stood : Opening
    pub opens : IsFresh folder stood desk.opened first
    pub serves : ServesShard desk end first folder' mid clock' old new
    pub legal : Legal stood desk.opened 1 (map Step (made serves.serves.deeds))
    pub shown : AreShownIn stood desk.opened 1 [] serves.serves.deeds

  -- No shard was opened at the moment that the clock gave: the folder holds what it held, and its count hasn't fallen.
  pub record OpensNone (folder folder' : F) (clock clock' : C) : Type 0 where
    pub opened : ℕ
    pub gives : Gives (m.work.moments clock) (m.work.moments clock') opened
    pub keeps : Keeps (m.files folder) (m.files folder')
    pub counts : m.folder_faults folder ≤ m.folder_faults folder'

  -- What a run did with the folder and the clock, by its end.
  abbrev pub OnceRuns : Keys → List ℕ → Bool → Option (List ℕ) → OnceEnd → F → F → C → C → Outside S K F N D C G → Outside S K F N D C G → Type 0
  OnceRuns keys base editor origin (Served end) folder folder' clock clock' old new = OpensAndServes keys base editor origin end folder folder' clock clock' old new
  OnceRuns keys base editor origin FolderFault folder folder' clock clock' old new =
      Rose (m.folder_faults folder) (m.folder_faults folder') × OpensNone folder folder' clock clock'
  OnceRuns keys base editor origin (TooLarge name) folder folder' clock clock' old new = IsTooLarge None (m.files folder) name × OpensNone folder folder' clock clock'
  OnceRuns keys base editor origin Memory folder folder' clock clock' old new = OpensNone folder folder' clock clock'

  -- the same with the one folder and the one clock in their lists, in which they are again
  pub record OnceRunsIn (keys : Keys) (base : List ℕ) (editor : Bool) (origin : Option (List ℕ)) (end : OnceEnd) (old new : Outside S K F N D C G) : Type 0 where
    pub folder : F
    pub folder' : F
    pub folders_are : old.folders.items ≡ folder ∷ []
    pub folders_then : new.folders.items ≡ folder' ∷ []
    pub clock : C
    pub clock' : C
    pub clocks_are : old.clocks.items ≡ clock ∷ []
    pub clocks_then : new.clocks.items ≡ clock' ∷ []
    pub runs : OnceRuns keys base editor origin end folder folder' clock clock' old new

  -- A run under the keys and the base of the words, for editors where they say so and with the origin that they tell: what it did, the causes of the faults, the status's line on the notes; and all else
  -- stays. No read that failed is passed over.
  pub record OnceRan (words : List (List ℕ)) (status : ℕ) (old new : Outside S K F N D C G) : Type 0 where
    pub end : OnceEnd
    pub keys : Keys
    pub base : List ℕ
    pub editor : Bool
    pub row : IsOnceRow words keys base editor
    pub runs : OnceRunsIn keys base editor (origin_told row.options) end old new
    pub untouched : Untouched end old new
    pub nothing_read : end ≡ Served conn.Memory → m.left new.input ≡ m.left old.input
    pub fine : status ≢ 3 → m.read_faults new.input ≡ m.read_faults old.input
    pub read_cause : status ≡ 3 → Rose (m.read_faults old.input) (m.read_faults new.input)
    pub write_cause : status ≡ 4 → Rose (m.write_faults old.output) (m.write_faults new.output)
    pub finishes : Finishes m.held m.write_faults status old.notes new.notes end
    pub others : new ≡ record old { input = new.input; output = new.output; notes = new.notes; folders = new.folders; clocks = new.clocks }

  abbrev pub OnceEnds : List (List ℕ) → ℕ → Outside S K F N D C G → Outside S K F N D C G → Type 0
  OnceEnds words status old new = Wants m status old new ⊎ OnceRan words status old new
