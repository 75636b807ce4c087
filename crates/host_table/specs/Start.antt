-- What a host begins with, and what is handed back where it doesn't begin. (Own.)
use Rattle.std.specs.Prelude.{◌≡◌, ⊤, ℕ, ◌+◌, ◌≤◌, ◌^◌, false, Option, None, Some, List, [], ◌∷◌, ◌++◌, length, map}
use Rattle.std.specs.List.{AllByRecursion}
use Rattle.atomic_table.specs.Seated.{TableId}
use Rattle.turn_lock.specs.Seats.{first_seat}
use Rattle.outside.specs.Faults.{Rose}
use Rattle.outside.specs.Folder.{Files, Keeps, Times}
use Rattle.wopi_model.specs.Begin.{new_life}
use Rattle.wopi_model.specs.Host.{Limits, kept_limits}
use Rattle.wopi_model.specs.Shard.{Opening}
use Rattle.host_core.specs.declared.opening.StartFault.{StartFault}
use Rattle.host_core.specs.declared.opening.StartFault.TheVariants as fault
use Rattle.host_core.specs.Notes.{Notes, LogStart}
use Rattle.host_core.specs.Opening.{AreDatesOf, IsOpening, Fits, IsTooLarge, IfTooLarge}
use Rattle.host_core.specs.Value.{Book, InMemory}
use Rattle.host_table.specs.declared.opening.Most.{Most}
use Rattle.host_table.specs.declared.opening.Most.TheVariants as most
use Rattle.host_table.specs.Passes.{Place, HostView, PassView, IsPassOf, top}

-- when a shard is full that has room for that
abbrev pub limits_of : Most → Limits
limits_of (most.Calls calls) = kept_limits calls
limits_of (most.Ids ids) = record { calls = None; ids = ids }

-- the log that a store's entries stand in, as it was taken into use
abbrev pub log_in : {F : Type 0} → (F → Notes) → F → Option LogStart
log_in notes store = (notes store).log

module _ {F : Type 0} where
  -- the first seats of locks over shards that were opened like that
  abbrev pub first_seats : List TableId → List (Book F) → List (Place F)
  first_seats [] bases = []
  first_seats (lock ∷ locks) [] = []
  first_seats (lock ∷ locks) (base ∷ bases) = first_seat lock base ∷ first_seats locks bases

  -- the first pass has seen nothing, begins behind the last stamps of all shards, and has all of the weight
  abbrev pub first_pass : HostView F → PassView F
  first_pass host =
      let seats = first_seats host.locks host.bases in
      record { number = 0; last = top seats; weight = 2 ^ 62; opened = host.opened; first = host.first; limits = host.limits; seats = seats }

  abbrev pub start_of : Book F → F
  start_of book = book.start

  abbrev pub folder_in : InMemory F → F
  folder_in store = store.folder

  -- no entry was made
  abbrev pub AreNew : List (Book F) → Type 0
  AreNew books = AllByRecursion (λ book. book.made ≡ []) books

module _ {F : Type 0} (files : F → Option Files) (faults : F → ℕ) where
  -- the folder has what it had, and its count has not fallen
  pub record IsHanded (old new : F) : Type 0 where
    pub same : Keeps (files old) (files new)
    pub counts : faults old ≤ faults new

  abbrev pub AreHanded : List F → List F → Type 0
  AreHanded [] [] = ⊤
  AreHanded [] (new ∷ news) = ⊥
  AreHanded (old ∷ olds) [] = ⊥
  AreHanded (old ∷ olds) (new ∷ news) = IsHanded old new × AreHanded olds news

  -- the files of a folder that the shard of that number takes, and that pass no limit
  abbrev pub HasOpening : ℕ → F → Type 0
  HasOpening number folder = (opening : Opening) × IsOpening (Some number) (files folder) opening × Fits opening

  abbrev pub HaveOpenings : ℕ → List F → Type 0
  HaveOpenings number [] = ⊤
  HaveOpenings number (folder ∷ folders) = HasOpening number folder × HaveOpenings (number + 1) folders

  -- the fault is that of the first shard that has one, of those from that number on
  pub record Blames (number : ℕ) (olds news : List F) (refusal : StartFault) : Type 0 where
    pub before : List F
    pub old : F
    pub after : List F
    pub was : olds ≡ before ++ old ∷ after
    pub fine : HaveOpenings number before
    pub handed : List F
    pub new : F
    pub others : List F
    pub is : news ≡ handed ++ new ∷ others
    pub there : length handed ≡ length before
    pub too_large : IfTooLarge refusal (IsTooLarge (Some (number + length before)) (files old))
    pub failed : refusal ≡ fault.FolderFault → Rose (faults old) (faults new)

  abbrev pub IsBlamed : List F → List F → StartFault → Type 0
  IsBlamed olds news (fault.TooLarge name) = Blames 0 olds news (fault.TooLarge name)
  IsBlamed olds news fault.FolderFault = Blames 0 olds news fault.FolderFault
  IsBlamed olds news fault.Memory = ⊤

module _ {F : Type 0} (files : F → Option Files) (times : F → Option Times) (faults : F → ℕ) where
  -- The shard of that number, as it was opened over a folder with these files. Each was last saved when the folder's was last changed.
  pub record IsBegun (opened first : ℕ) (limits : Limits) (number : ℕ) (folder : F) (base : Book F) : Type 0 where
    pub stood : Opening
    pub book : base ≡ record { only = Some number; begin = new_life stood opened first; limits = limits; dates = base.dates; made = []; time = opened; ticked = false; start = folder; folder = base.folder }
    pub opening : IsOpening (Some number) (files folder) stood
    pub fits : Fits stood
    pub dated : map (λ one. one.0) base.dates ≡ map (λ one. one.0) base.begin.files
    pub told : AreDatesOf (times folder) base.dates

  abbrev pub AreBegun : ℕ → ℕ → Limits → ℕ → List F → List (Book F) → Type 0
  AreBegun opened first limits number [] [] = ⊤
  AreBegun opened first limits number [] (base ∷ bases) = ⊥
  AreBegun opened first limits number (folder ∷ folders) [] = ⊥
  AreBegun opened first limits number (folder ∷ folders) (base ∷ bases) = IsBegun opened first limits number folder base × AreBegun opened first limits (number + 1) folders bases

  -- a host over these folders, and its first pass
  pub record StartsWithin (folders : List F) (limits : Limits) (opened first : ℕ) (host : HostView F) (pass : PassView F) : Type 0 where
    pub bases : AreBegun opened first limits 0 folders host.bases
    pub opened_is : host.opened ≡ opened
    pub first_is : host.first ≡ first
    pub limits_is : host.limits ≡ limits
    pub made : host.made ≡ 1
    pub pass_is : pass ≡ first_pass host
    pub of_host : IsPassOf host pass

  -- one whose shards take so many calls
  abbrev pub Starts : List F → ℕ → ℕ → ℕ → HostView F → PassView F → Type 0
  Starts folders capacity opened first host pass = StartsWithin folders (kept_limits capacity) opened first host pass

module _ {F : Type 0} (files : F → Option Files) (times : F → Option Times) (faults : F → ℕ) where
  -- a host over stores in memory over these folders, and its first pass
  pub record StartsKept (folders : List F) (capacity opened first : ℕ) (host : HostView (InMemory F)) (pass : PassView (InMemory F)) : Type 0 where
    pub stores : List (InMemory F)
    pub over : map folder_in stores ≡ folders
    pub starts : Starts (λ store. files store.folder) (λ store. times store.folder) (λ store. faults store.folder) stores capacity opened first host pass
