-- What every journal of a host keeps. (Own.)
use Rattle.std.specs.Prelude.{◌≡◌, ⊤, ℕ, ◌+◌, ◌<◌, ◌≤◌, ◌^◌, true, Option, None, Some, List, [], ◌∷◌, length}
use Rattle.std.specs.List.{AllByRecursion}
use Rattle.hex.specs.Hex.{IsBytes}
use Rattle.wopi_text.specs.FileName.{IsFileName}
use Rattle.wopi_text.specs.LockId.{IsLockId}
use Rattle.wopi_text.specs.declared.lock_field.LockField.{LockField}
use Rattle.wopi_text.specs.declared.lock_field.LockField.TheVariants as field
use Rattle.wopi_model.specs.Moment.{IsMoment}
use Rattle.wopi_model.specs.User.{IsUser}
use Rattle.wopi_model.specs.declared.token.Token.{Token}
use Rattle.host_core.specs.declared.entry.EntryAct.{EntryAct}
use Rattle.host_core.specs.declared.entry.EntryAct.TheVariants as act
use Rattle.host_core.specs.Entries.{Made, kept_act, accepted_contents}
use Rattle.host_core.specs.Entry.{is_status}
use Rattle.host_core.specs.Opening.{IsByName, IsFirstVersion, MayKeep}
use Rattle.host_core.specs.Value.{Left}
use Rattle.host_table.specs.declared.journal.Spot.{Spot}
use Rattle.host_table.specs.Journal.{JournalView, openings, merge_of, AreFound}

-- a number that 64 bits hold, and maybe one
abbrev pub Fits : ℕ → Type 0
Fits number = number < 2 ^ 64

abbrev pub MayFit : Option ℕ → Type 0
MayFit None = ⊤
MayFit (Some number) = Fits number

abbrev pub MayBeLock : Option (List ℕ) → Type 0
MayBeLock None = ⊤
MayBeLock (Some id) = IsLockId id

abbrev pub MayTellLock : LockField → Type 0
MayTellLock (field.Held id) = IsLockId id
MayTellLock _ = ⊤

abbrev pub MayBeBytes : Option (List ℕ) → Type 0
MayBeBytes None = ⊤
MayBeBytes (Some bytes) = IsBytes bytes

abbrev pub IsAct : EntryAct → Type 0
IsAct (act.Get most) = MayFit most
IsAct (act.Put lock size) = MayBeLock lock × Fits size
IsAct (act.Lock id) = IsLockId id
IsAct (act.Refresh id) = IsLockId id
IsAct (act.Unlock id) = IsLockId id
IsAct (act.Relock old id) = IsLockId old × IsLockId id
IsAct (act.Create overwrite size) = Fits size
IsAct _ = ⊤

pub record IsToken (token : Token) : Type 0 where
  pub user : IsUser token.user
  pub file : IsFileName token.file
  pub serial : Fits token.serial
  pub issued : Fits token.issued
  pub expires : Fits token.expires

-- what an entry tells
pub record IsBounded (one : Made) : Type 0 where
  pub stamp : Fits one.step.stamp
  pub pass : one.step.pass < 2 ^ 32
  pub moment : IsMoment one.step.moment
  pub now : IsMoment one.time
  pub name : IsFileName one.step.call.name
  pub asked : IsAct (kept_act one.step.call.act)
  pub token : IsToken one.step.call.token
  pub status : is_status one.step.ruling.status ≡ true
  pub lock : MayTellLock one.step.ruling.lock
  pub version : MayFit one.step.ruling.version
  pub contents : MayBeBytes (accepted_contents one)

-- the most entries of a journal: those of 16 full shards
abbrev pub most_entries : ℕ
most_entries = 524288

module _ {F : Type 0} where
  -- the opening files of each shard, from that number on
  abbrev pub AreOpenings : ℕ → List (Left F) → Type 0
  AreOpenings shard [] = ⊤
  AreOpenings shard (part ∷ parts) =
      (IsByName part.opening × AllByRecursion (λ file. MayKeep (Some shard) file.0) part.opening) × AreOpenings (shard + 1) parts

  -- when the host opened, its first version, and the order of its opening files
  pub record HasHead (opened first : ℕ) (parts : List (Left F)) : Type 0 where
    pub opened_is : IsMoment opened
    pub first_is : IsFirstVersion first
    pub openings_are : AreOpenings 0 parts

  -- what a journal keeps: its entries stand at the spots
  pub record IsKept (opened first : ℕ) (parts : List (Left F)) (spots : List Spot) : Type 0 where
    pub found : AreFound parts spots
    pub head : HasHead opened first parts
    pub few : length (merge_of parts spots) ≤ most_entries

  -- its head, how many entries it has, and what its files and its entries tell
  pub record KeepsBounds (journal : JournalView F) : Type 0 where
    pub head : HasHead journal.opened journal.first journal.parts
    pub few : length journal.merge ≤ most_entries
    pub files : AllByRecursion (λ file. IsBytes file.1) (openings journal.parts)
    pub entries : AllByRecursion IsBounded journal.merge
