-- What a host goes on with that is opened again, and what is handed back where it doesn't. (Own.)
use Rattle.std.specs.Prelude.{◌≡◌, ◌⊎◌, ⊤, ℕ, max, ◌+◌, ◌≤◌, ◌<◌, false, Option, None, Some, List, [], ◌∷◌, option_map}
use Rattle.std.specs.List.{AllByRecursion}
use Rattle.outside.specs.Faults.{Rose}
use Rattle.outside.specs.Folder.{Files, Times}
use Rattle.wopi_model.specs.Begin.{Begin}
use Rattle.wopi_model.specs.Host.{Limits}
use Rattle.wopi_model.specs.Lives.{live_ids}
use Rattle.host_core.specs.declared.life.Life.{Life}
use Rattle.host_core.specs.declared.life.ReopenFault.{ReopenFault}
use Rattle.host_core.specs.declared.life.ReopenFault.TheVariants as fault
use Rattle.host_core.specs.Facts.{Dates}
use Rattle.host_core.specs.Life.{IfLarge, IsGoodLife, IsReopened, Mends, OpensDoubt, mended}
use Rattle.host_core.specs.Notes.{Notes}
use Rattle.host_core.specs.Opening.{IsTooLarge}
use Rattle.host_core.specs.Value.{Book}
use Rattle.host_table.specs.Histories.{last_stamp}
use Rattle.host_table.specs.Passes.{HostView, PassView, IsPassOf}
use Rattle.host_table.specs.Start.{first_pass}

-- any number of calls, and so many held locks and ids that are refused
abbrev pub endless : ℕ → Limits
endless ids = record { calls = None; ids = ids }

-- the life of a shard of a host that opened anew then over files of that version
abbrev pub IsOf : ℕ → ℕ → Life → Type 0
IsOf opened first life = (life.opened ≡ opened) × (life.first ≡ first)

-- all lives are of one such host
abbrev pub AreOfOne : ℕ → ℕ → List Life → Type 0
AreOfOne opened first lives = AllByRecursion (IsOf opened first) lives

-- they are not
abbrev pub AreOfMany : List Life → Type 0
AreOfMany lives = (opened : ℕ) → (first : ℕ) → AreOfOne opened first lives → ⊥

-- the greatest of the last stamps, or 0
abbrev pub greatest_last : {F : Type 0} → List (Book F) → ℕ
greatest_last [] = 0
greatest_last (book ∷ books) = max (last_stamp book.begin.last book.made) (greatest_last books)

module _ {F : Type 0} (files : F → Option Files) (times : F → Option Times) (faults : F → ℕ) (notes : F → Notes) where
  -- The shard of that number, as it goes on over a folder with its life, which was told. The folder was mended first, and the shard starts with it as it is then.
  pub record GoesOn (ids number : ℕ) (life : Life) (folder : F) (base : Book F) : Type 0 where
    pub good : IsGoodLife (Some number) life
    pub book : base ≡ record { only = Some number; begin = base.begin; limits = endless ids; dates = base.dates; made = []; time = life.now; ticked = false; start = base.start; folder = base.folder }
    pub reopened : IsReopened (Some number) (files folder) (times folder) life base.begin base.dates
    pub mends : Mends life.files.items (files folder) (files base.start)
    pub enough : live_ids base.begin.files ≤ ids
    pub counts : faults folder ≤ faults base.start
    pub log : (notes base.start).log ≡ (notes folder).log

  abbrev pub AllGoOn : ℕ → ℕ → List Life → List F → List (Book F) → Type 0
  AllGoOn ids number [] [] [] = ⊤
  AllGoOn ids number (life ∷ lives) (folder ∷ folders) (base ∷ bases) = GoesOn ids number life folder base × AllGoOn ids (number + 1) lives folders bases
  AllGoOn ids number _ _ _ = ⊥

module _ {F : Type 0} (files : F → Option Files) (faults : F → ℕ) (notes : F → Notes) where
  -- only names that were in doubt are open, the count has not fallen, and the log is the one that it was
  pub record IsHandedOn (life : Life) (old new : F) : Type 0 where
    pub doubt : OpensDoubt life.files.items (files old) (files new)
    pub counts : faults old ≤ faults new
    pub log : (notes new).log ≡ (notes old).log

  abbrev pub AreHandedOn : List Life → List F → List F → Type 0
  AreHandedOn [] [] [] = ⊤
  AreHandedOn (life ∷ lives) (old ∷ olds) (new ∷ news) = IsHandedOn life old new × AreHandedOn lives olds news
  AreHandedOn _ _ _ = ⊥

module _ {F : Type 0} (files : F → Option Files) (times : F → Option Times) (faults : F → ℕ) where
  -- the fault is that of the shard of that number
  pub record IsFaultOf (ids number : ℕ) (life : Life) (old new : F) (refusal : ReopenFault) : Type 0 where
    pub bad : refusal ≡ fault.BadLife → IsGoodLife (Some number) life → ⊥
    pub too_many : refusal ≡ fault.TooManyIds → (begin : Begin) × (dates : Dates) × IsReopened (Some number) (files old) (times old) life begin dates × (ids < live_ids begin.files)
    pub too_large : IfLarge refusal (IsTooLarge (Some number) (option_map (mended life.files.items) (files old)))
    pub failed : refusal ≡ fault.FolderFault → Rose (faults old) (faults new)

  -- it is that of one of these shards, of which the first has that number
  abbrev pub IsFaultOfOne : ℕ → ℕ → List Life → List F → List F → ReopenFault → Type 0
  IsFaultOfOne ids number (life ∷ lives) (old ∷ olds) (new ∷ news) refusal = IsFaultOf ids number life old new refusal ⊎ IsFaultOfOne ids (number + 1) lives olds news refusal
  IsFaultOfOne ids number _ _ _ refusal = ⊥

  -- a shard doesn't go on, where memory isn't wanting
  abbrev pub IsBlamedOnShard : ℕ → List Life → List F → List F → ReopenFault → Type 0
  IsBlamedOnShard ids lives olds news fault.Memory = ⊤
  IsBlamedOnShard ids lives olds news fault.BadLife = IsFaultOfOne ids 0 lives olds news fault.BadLife
  IsBlamedOnShard ids lives olds news fault.TooManyIds = IsFaultOfOne ids 0 lives olds news fault.TooManyIds
  IsBlamedOnShard ids lives olds news fault.FolderFault = IsFaultOfOne ids 0 lives olds news fault.FolderFault
  IsBlamedOnShard ids lives olds news (fault.TooLarge name) = IsFaultOfOne ids 0 lives olds news (fault.TooLarge name)

  -- why no host goes on: the lives are not those of one host, or a shard doesn't
  abbrev pub IsBlamedOn : ℕ → List Life → List F → List F → ReopenFault → Type 0
  IsBlamedOn ids lives olds news refusal = ((refusal ≡ fault.BadLife) × AreOfMany lives) ⊎ IsBlamedOnShard ids lives olds news refusal

module _ {F : Type 0} (files : F → Option Files) (times : F → Option Times) (faults : F → ℕ) (notes : F → Notes) where
  -- a host that goes on over these folders with these lives, and its first pass
  pub record AllGoOnWithin (ids : ℕ) (lives : List Life) (folders : List F) (host : HostView F) (pass : PassView F) : Type 0 where
    pub one : AreOfOne host.opened host.first lives
    pub bases : AllGoOn files times faults notes ids 0 lives folders host.bases
    pub limits_is : host.limits ≡ endless ids
    pub made : host.made ≡ 1
    pub pass_is : pass ≡ first_pass host
    pub of_host : IsPassOf host pass
