-- The files of a shard that goes on, as they are put together.
use Rattle.std.specs.Prelude.{◌≡◌, ◌⊎◌, ⊤, ℕ, ◌+◌, ◌^◌, ◌-◌, ◌≤◌, ◌<◌, false, List, [], ◌∷◌, ◌++◌, length, map, filter, is_none, option_map, sum_by, Bool, Option, None, Some}
use Rattle.std.specs.List.{AllByRecursion}
use Rattle.kept_locks.specs.Locks.{Standing, Locks, unlocked}
use Rattle.wopi_model.specs.Lives.{lock_places}
use Rattle.wopi_model.specs.Moment.{IsMoment}
use Rattle.wopi_model.specs.Settle.{expired, standing, still_spent, with_spent}
use Rattle.wopi_model.specs.Shard.{Opening}
use Rattle.host_core.specs.declared.file.KeptFile.{KeptFile}
use Rattle.host_core.specs.declared.life.Life.{Life}
use Rattle.host_core.specs.declared.life.LifeFile.{LifeFile}
use Rattle.host_core.specs.Facts.{AreDigested, Dates, date_in, dates_of}
use Rattle.wopi_model.specs.declared.locks.Spent.{Spent}
use Rattle.outside.specs.Folder.{Files, Times}
use Rattle.host_core.specs.declared.going.Going.{Going}
use Rattle.host_core.specs.Opening.{Fits, IsOpening}
use Rattle.host_core.specs.Life.{AreDatesBeside, BeganBefore, goes_on, is_gone, listed_on, mended, told_at, version_with}
use Rattle.host_core.specs.Names.{AreOnce, place_in}
use Rattle.host_core.specs.Numbers.{IsNumbered, named}
use Rattle.host_core.specs.Turns.{AreAsOf}
use Rattle.host_core.specs.Whole.{joined, standing_at}

-- the locks that were told, as of that moment
abbrev pub locks_on : ℕ → LifeFile → Standing
locks_on now file = record { lock = standing file.lock now; spent = still_spent (with_spent (expired file.lock now) file.spent.items) now }

abbrev pub locks_found : ℕ → Option LifeFile → Standing
locks_found now None = unlocked
locks_found now (Some file) = locks_on now file

abbrev pub locks_in : Life → KeptFile → Standing
locks_in life kept = locks_found life.now (told_at life.files.items kept.name)

abbrev pub version_found : ℕ → Option LifeFile → Option (List ℕ) → ℕ
version_found first None held = first
version_found first (Some file) held = version_with file.contents file.version held

-- a file that was read, with the version that it goes on with
abbrev pub kept_on : Life → KeptFile → KeptFile
kept_on life kept = record kept { version = version_found life.first (told_at life.files.items kept.name) kept.contents }

-- a file that was told and isn't there
abbrev pub kept_gone : LifeFile → KeptFile
kept_gone file = record { name = file.name; contents = None; version = file.version; torn = false; saved = 0; digest = None }

-- none of these names is the file's
abbrev pub is_unmet : List (List ℕ) → LifeFile → Bool
is_unmet names file = is_none (place_in names file.name)

-- how many locks and ids these are
abbrev pub uses_of : Standing → ℕ
uses_of one = lock_places one.lock + length one.spent

abbrev pub ids_told : List Standing → ℕ
ids_told told = sum_by uses_of told

-- no version is too high for the stamps that are left
abbrev pub AreLow : ℕ → List KeptFile → Type 0
AreLow last files = AllByRecursion (λ kept. kept.version ≤ last + (2 ^ 63 - 1)) files

abbrev pub NoneTorn : List KeptFile → Type 0
NoneTorn files = AllByRecursion (λ kept. kept.torn ≡ false) files

-- these ids are refused at 0
abbrev pub IsLive : List Spent → Type 0
IsLive ids = AllByRecursion (λ one. 0 < one.until) ids

-- a lock that is not over at that moment, and ids
pub record IsAsOf (now : ℕ) (one : Standing) : Type 0 where
  pub stands : standing one.lock now ≡ one.lock
  pub live : IsLive one.spent
  pub began : BeganBefore now one.lock

-- What was told is joined to the files of an opening.
pub record IsGoing (life : Life) (opening : Opening) (dates : Dates) (files : List KeptFile) (told : List Standing) (index : List (List ℕ × ℕ)) (bytes : ℕ) : Type 0 where
  pub listed : listed_on (joined files told) ≡ (goes_on life opening).files
  pub long : length told ≡ length files
  pub settled : AllByRecursion (IsAsOf life.now) told
  pub numbered : IsNumbered index (named files)
  pub once : AreOnce (named files)
  pub kept : bytes ≡ sum_by (λ file. length file.1) opening
  pub torn : NoneTorn files
  pub low : AreLow life.last files
  pub moments : (name : List ℕ) → IsMoment (date_in files name)
  pub digests : AreDigested files
  pub few : length files ≤ 4000000000
  pub dates_are : dates_of files ≡ dates ++ map (λ file. (file.name, 0)) (filter (is_gone opening) life.files.items)

-- the locks are those that were told, and no others
pub record AreHeld (told : List Standing) (now ids : ℕ) (locks : Locks) : Type 0 where
  pub stands : (number : ℕ) → number < length told → standing_at locks.files number ≡ standing_at told number
  pub beyond : (number : ℕ) → length told ≤ number → standing_at locks.files number ≡ unlocked
  pub as_of : AreAsOf now locks
  pub long : length told ≤ length locks.files
  pub room : ids < locks.room

-- ---- as the locks are put in, one after another

-- no file has a lock
abbrev pub IsFreeOf : List Standing → Type 0
IsFreeOf files = (number : ℕ) → (standing_at files number).lock ≡ None

-- the ids are refused that were told, and no file has a lock
abbrev pub HoldsFrom : List Standing → List Standing → Type 0
HoldsFrom told files = (number : ℕ) → standing_at files number ≡ record { lock = None; spent = (standing_at told number).spent }

-- each file has the lock that was told, or none yet
abbrev pub IsPartly : List Standing → List Standing → Type 0
IsPartly told files = (number : ℕ) →
    ((standing_at files number).spent ≡ (standing_at told number).spent)
    × (((standing_at files number).lock ≡ None) ⊎ ((standing_at files number).lock ≡ (standing_at told number).lock))

-- what is there before the shard goes on: its files over that folder, and their locks
pub record TakesUp (only : Option ℕ) (files : Option Files) (times : Option Times) (life : Life) (going : Going) : Type 0 where
  pub opening : Opening
  pub found : Dates
  pub read : IsOpening only (option_map (mended life.files.items) files) opening
  pub fits : Fits opening
  pub found_are : AreDatesBeside life.files.items times found
  pub found_names : map (λ one. one.0) found ≡ map (λ one. one.0) opening
  pub going_is : IsGoing life opening found going.stock.files.items going.told.items going.stock.index going.stock.bytes
