-- What a shard goes on with, of which it is told, over a folder.
use Rattle.std.specs.Prelude.{◌≡◌, ⊤, ℕ, ◌+◌, ◌-◌, ◌^◌, ◌≤◌, ◌==◌, Bool, true, false, ◌&&◌, List, [], ◌∷◌, ◌++◌, length, map, filter, Option, None, Some, is_none, option_map, if◌then◌else◌}
use Rattle.std.specs.Str.{bytes_eq}
use Rattle.std.specs.List.{AllByRecursion, list_any}
use Rattle.outside.specs.Folder.{Files, Times, Keeps}
use Rattle.kept_locks.specs.Locks.{Standing}
use Rattle.wopi_model.specs.Begin.{Begin, at_name}
use Rattle.wopi_model.specs.File.{File, never_met, opened_with}
use Rattle.wopi_model.specs.Moment.{IsMoment}
use Rattle.wopi_model.specs.Settle.{settled}
use Rattle.wopi_model.specs.Shard.{Opening, Shard}
use Rattle.wopi_model.specs.declared.locks.Lock.{Lock}
use Rattle.host_core.specs.declared.file.KeptFile.{KeptFile}
use Rattle.host_core.specs.declared.life.Life.{Life}
use Rattle.host_core.specs.declared.life.LifeFile.{LifeFile}
use Rattle.host_core.specs.declared.life.LifeContents.{LifeContents}
use Rattle.host_core.specs.declared.life.LifeContents.TheVariants as contents
use Rattle.host_core.specs.declared.life.ReopenFault.{ReopenFault}
use Rattle.host_core.specs.declared.life.ReopenFault.TheVariants as fault
use Rattle.host_core.specs.declared.opening.StartFault.{StartFault}
use Rattle.host_core.specs.declared.opening.StartFault.TheVariants as start
use Rattle.host_core.specs.Facts.{Dates}
use Rattle.host_core.specs.Files.{file_of}
use Rattle.host_core.specs.Names.{AreOnce}
use Rattle.host_core.specs.Opening.{IsFirstVersion, IsOpening, MayKeep, IsDateOf, Fits, opened_contents}
use Rattle.host_core.specs.Places.{first_of}
use Rattle.host_core.specs.Whole.{Whole, joined}

-- ---- which lives a shard may have

-- behind such a last stamp the file's versions stay below 2^64
abbrev pub IsLowVersion : ℕ → ℕ → Type 0
IsLowVersion last version = version ≤ last + (2 ^ 63 - 2)

-- the lock began by then
abbrev pub BeganBefore : ℕ → Option Lock → Type 0
BeganBefore now None = ⊤
BeganBefore now (Some lock) = lock.since ≤ now

-- a shard of that time and that last stamp may go on with such a file
pub record MayGoOn (now last : ℕ) (file : LifeFile) : Type 0 where
  pub low : IsLowVersion last file.version
  pub began : BeganBefore now file.lock

abbrev pub life_names : List LifeFile → List (List ℕ)
life_names files = map (λ file. file.name) files

-- A life that this shard may have: it tells of names of its own, each once, its moments are moments, and its stamps are not used up.
pub record IsGoodLife (only : Option ℕ) (life : Life) : Type 0 where
  pub opened : IsMoment life.opened
  pub first : IsFirstVersion life.first
  pub now : IsMoment life.now
  pub last : life.last ≤ 2 ^ 63 - 1
  pub own : AllByRecursion (λ file. MayKeep only file.name) life.files.items
  pub files : AllByRecursion (MayGoOn life.now life.last) life.files.items
  pub once : AreOnce (life_names life.files.items)

-- ---- the folder is made to hold what is told

-- What a name holds that held these before. Only the last change may be missing in the folder: it is made up for.
abbrev pub mended_with : LifeContents → Option (List ℕ) → Option (List ℕ)
mended_with contents.Absent held = held
mended_with (contents.Left size) held = held
mended_with contents.Removed held = None
mended_with (contents.Told bytes) held = Some bytes

abbrev pub mended_by : LifeFile → Files → Files
mended_by file files name = if bytes_eq file.name name then mended_with file.contents (files name) else files name

abbrev pub mended : List LifeFile → Files → Files
mended [] files = files
mended (file ∷ life) files = mended life (mended_by file files)

-- the folder, before and after, where it tells
abbrev pub Mends : List LifeFile → Option Files → Option Files → Type 0
Mends life old new = Keeps (option_map (mended life) old) new

-- the name's contents were changed last
abbrev pub is_changed : LifeContents → Bool
is_changed contents.Absent = false
is_changed (contents.Left size) = false
is_changed contents.Removed = true
is_changed (contents.Told bytes) = true

abbrev pub is_in_doubt : List LifeFile → List ℕ → Bool
is_in_doubt life name = list_any (λ file. bytes_eq file.name name && is_changed file.contents) life

-- only names that are in doubt are open
abbrev pub OpensDoubt : {A : Type 0} → List LifeFile → Option (List ℕ → A) → Option (List ℕ → A) → Type 0
OpensDoubt life None None = ⊤
OpensDoubt life None (Some new) = ⊥
OpensDoubt life (Some old) None = ⊥
OpensDoubt life (Some old) (Some new) = (name : List ℕ) → is_in_doubt life name ≡ false → new name ≡ old name

-- ---- what the shard goes on with

-- The folder holds what was told: the same bytes, or as many of those that it is to have itself. What is gone is no other contents.
abbrev pub is_as_told : LifeContents → Option (List ℕ) → Bool
is_as_told told None = true
is_as_told contents.Absent (Some held) = false
is_as_told (contents.Left size) (Some held) = length held == size
is_as_told contents.Removed (Some held) = false
is_as_told (contents.Told bytes) (Some held) = bytes_eq held bytes

-- other contents begin at the next version
abbrev pub version_with : LifeContents → ℕ → Option (List ℕ) → ℕ
version_with told version held = if is_as_told told held then version else version + 1

-- the file that was told, where its name holds these, at that moment
abbrev pub file_on : ℕ → LifeFile → Option (List ℕ) → File
file_on now file held =
    settled (record { contents = held; version = version_with file.contents file.version held; lock = file.lock; spent = file.spent.items }) now

-- what is told of a name, if anything is
abbrev pub told_at : List LifeFile → List ℕ → Option LifeFile
told_at life name = first_of (λ file. bytes_eq file.name name) life

abbrev pub found_as : ℕ → ℕ → Option LifeFile → List ℕ → File
found_as first now None held = opened_with first held
found_as first now (Some file) held = file_on now file (Some held)

-- a file of the folder: one that was told, or a new one
abbrev pub found_on : Life → List ℕ × List ℕ → List ℕ × File
found_on life one = (one.0, found_as life.first life.now (told_at life.files.items one.0) one.1)

-- the folder has none of that name
abbrev pub is_gone : Opening → LifeFile → Bool
is_gone opening file = is_none (opened_contents opening file.name)

abbrev pub gone_on : Life → LifeFile → List ℕ × File
gone_on life file = (file.name, file_on life.now file None)

-- the files of the folder, and behind them those that were told and aren't there
abbrev pub goes_on : Life → Opening → Begin
goes_on life opening =
    record {
      opened = life.opened;
      first = life.first;
      now = life.now;
      last = life.last;
      files = map (found_on life) opening ++ map (gone_on life) (filter (is_gone opening) life.files.items);
    }

-- files that were not changed last have the dates that the folder had
abbrev pub AreDatesBeside : List LifeFile → Option Times → Dates → Type 0
AreDatesBeside life times dates = AllByRecursion (λ one. is_in_doubt life one.0 ≡ false → IsDateOf times one.0 one.1) dates

-- A shard that goes on over that folder: the folder was mended, and what it holds then is joined to what was told.
pub record IsReopened (only : Option ℕ) (files : Option Files) (times : Option Times) (life : Life) (begin : Begin) (dates : Dates) : Type 0 where
  pub opening : Opening
  pub read : IsOpening only (option_map (mended life.files.items) files) opening
  pub fits : Fits opening
  pub begin_is : begin ≡ goes_on life opening
  pub found : Dates
  pub found_are : AreDatesBeside life.files.items times found
  pub found_names : map (λ one. one.0) found ≡ map (λ one. one.0) opening
  pub dates_are : dates ≡ found ++ map (λ file. (file.name, 0)) (filter (is_gone opening) life.files.items)

-- ---- a life that tells where a shard stands

-- The file stands as it is told: what the name holds, once it is mended, is what was told, and the rest is as of that moment.
pub record TellsFile (now : ℕ) (told : LifeFile) (held : Option (List ℕ)) (stands : File) : Type 0 where
  pub as_told : is_as_told told.contents (mended_with told.contents held) ≡ true
  pub stands_is : stands ≡ settled (record { contents = mended_with told.contents held; version = told.version; lock = told.lock; spent = told.spent.items }) now

-- The life tells just where the shard stands over that folder: what is told of a name is its file, and where nothing is told the name was never met,
-- and the folder has no file of that name which the shard takes.
pub record TellsShard (only : Option ℕ) (files : Files) (life : Life) (shard : Shard) : Type 0 where
  pub opened_is : shard.opened ≡ life.opened
  pub first_is : shard.first ≡ life.first
  pub now_is : shard.now ≡ life.now
  pub told : (name : List ℕ) (file : LifeFile) → told_at life.files.items name ≡ Some file → TellsFile life.now file (files name) (shard.files name)
  pub unmet : (name : List ℕ) → told_at life.files.items name ≡ None → shard.files name ≡ never_met life.first
  pub alone : (name : List ℕ) → told_at life.files.items name ≡ None → MayKeep only name → files name ≡ None

-- what is said of a refusal's name, where it has one
abbrev pub IfLarge : ReopenFault → (List ℕ → Type 0) → Type 0
IfLarge (fault.TooLarge name) P = P name
IfLarge fault.FolderFault P = ⊤
IfLarge fault.Memory P = ⊤
IfLarge fault.BadLife P = ⊤
IfLarge fault.TooManyIds P = ⊤

-- the same fault as that of an opening
abbrev pub as_reopening : StartFault → ReopenFault
as_reopening start.FolderFault = fault.FolderFault
as_reopening (start.TooLarge name) = fault.TooLarge name
as_reopening start.Memory = fault.Memory

-- there is none for the life, which is none of this shard, or whose ids are too many
abbrev pub IsOfLife : ReopenFault → Type 0
IsOfLife fault.BadLife = ⊤
IsOfLife fault.TooManyIds = ⊤
IsOfLife fault.FolderFault = ⊥
IsOfLife fault.Memory = ⊥
IsOfLife (fault.TooLarge name) = ⊥

-- the folder failed, or there was no memory
abbrev pub IsFolderOrMemory : ReopenFault → Type 0
IsFolderOrMemory fault.FolderFault = ⊤
IsFolderOrMemory fault.Memory = ⊤
IsFolderOrMemory (fault.TooLarge name) = ⊥
IsFolderOrMemory fault.BadLife = ⊥
IsFolderOrMemory fault.TooManyIds = ⊥

-- ---- as it is kept

-- the files, each with the locks at its place
abbrev pub listed_on : List Whole → List (List ℕ × File)
listed_on files = map (λ kept. (kept.name, file_of kept)) files

abbrev pub begin_listed : ℕ → ℕ → ℕ → ℕ → List KeptFile → List Standing → Begin
begin_listed opened first now last files locks =
    record { opened = opened; first = first; now = now; last = last; files = listed_on (joined files locks) }
