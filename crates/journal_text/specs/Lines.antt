-- What the lines of a journal may tell. (Own.)
use Rattle.std.specs.Prelude.{◌≡◌, ⊤, ℕ, ◌<◌, ◌≤◌, ◌^◌, ◌==◌, true, List, length, Option, None, Some, if◌then◌else◌}
use Rattle.hex.specs.Hex.{IsBytes}
use Rattle.wopi_text.specs.FileName.{IsFileName}
use Rattle.wopi_model.specs.Moment.{IsMoment}
use Rattle.host_core.specs.Opening.{IsFirstVersion}
use Rattle.host_core.specs.declared.entry.EntryAct.{EntryAct}
use Rattle.host_core.specs.declared.entry.EntryAct.TheVariants as act
use Rattle.journal_text.specs.declared.text.Format.{Format}
use Rattle.journal_text.specs.declared.text.Format.TheVariants.{First, Second}
use Rattle.journal_text.specs.declared.text.Line.{Line}
pub use Rattle.host_core.specs.Entry.{is_status}
pub use Rattle.host_table.specs.Bounds.{Fits, MayFit, MayBeLock, IsAct, IsToken}

-- the size of the contents that an act brings
abbrev pub size_of : EntryAct → Option ℕ
size_of (act.Put lock size) = Some size
size_of (act.Create overwrite size) = Some size
size_of _ = None

-- the size of the contents that a line tells
abbrev pub told_size : EntryAct → ℕ → Option ℕ
told_size asked status = if status == 200 then size_of asked else None

-- contents of that size, or none
abbrev pub AreSized : Option ℕ → Option (List ℕ) → Type 0
AreSized None None = ⊤
AreSized (Some size) (Some contents) = IsBytes contents × (length contents ≡ size)
AreSized _ _ = ⊥

-- the first form has lock ids of at most 256 bytes, whatever a host takes
abbrev pub IsShort : List ℕ → Type 0
IsShort id = length id ≤ 256

abbrev pub MayBeShort : Option (List ℕ) → Type 0
MayBeShort None = ⊤
MayBeShort (Some id) = IsShort id

abbrev pub HasShort : EntryAct → Type 0
HasShort (act.Put lock size) = MayBeShort lock
HasShort (act.Lock id) = IsShort id
HasShort (act.Refresh id) = IsShort id
HasShort (act.Unlock id) = IsShort id
HasShort (act.Relock old id) = IsShort old × IsShort id
HasShort _ = ⊤

-- the lock ids of an entry's act and ruling may stand in a journal of the form
abbrev pub AreOfForm : Format → EntryAct → Option (List ℕ) → Type 0
AreOfForm First asked lock = HasShort asked × MayBeShort lock
AreOfForm Second asked lock = ⊤

-- what an entry's line may tell
pub record IsLine (form : Format) (line : Line) : Type 0 where
  pub stamp : Fits line.stamp
  pub shard : line.shard < 16
  pub pass : line.pass < 2 ^ 32
  pub moment : IsMoment line.moment
  pub now : IsMoment line.now
  pub name : IsFileName line.name
  pub asked : IsAct line.act
  pub token : IsToken line.token
  pub status : is_status line.status ≡ true
  pub lock : MayBeLock line.lock
  pub ids : AreOfForm form line.act line.lock
  pub version : MayFit line.version
  pub contents : AreSized (told_size line.act line.status) line.contents

-- what an entry's line may tell of which the contents stand elsewhere
pub record IsBare (line : Line) : Type 0 where
  pub stamp : Fits line.stamp
  pub shard : line.shard < 16
  pub pass : line.pass < 2 ^ 32
  pub moment : IsMoment line.moment
  pub now : IsMoment line.now
  pub name : IsFileName line.name
  pub asked : IsAct line.act
  pub token : IsToken line.token
  pub status : is_status line.status ≡ true
  pub lock : MayBeLock line.lock
  pub version : MayFit line.version
  pub contents : line.contents ≡ None

-- what an opening file's line may tell
pub record IsFile (file : List ℕ × List ℕ) : Type 0 where
  pub name : IsFileName file.0
  pub contents : IsBytes file.1

-- what a first line may tell; the first form tells of the version 1 alone
abbrev pub IsOpening : Format → ℕ → ℕ → Type 0
IsOpening First opened first = IsMoment opened × (first ≡ 1)
IsOpening Second opened first = IsMoment opened × IsFirstVersion first
