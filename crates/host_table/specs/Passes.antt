-- A host and its passes, as contracts see them. (Own.)
use Rattle.std.specs.Prelude.{◌≤◌, ◌≡◌, ⊤, ℕ, ◌+◌, ◌-◌, ◌/◌, max, ltb, Bool, true, false, List, [], ◌∷◌, ◌++◌, length, map, Option, None, Some, IfSome, is_some, slice_get, if◌then◌else◌}
use Rattle.std.specs.List.{AllByRecursion, Contains}
use Rattle.atomic_table.specs.Seated.{TableId}
use Rattle.turn_lock.specs.Seats.{SeatValue}
use Rattle.wopi_text.specs.FileName.{shard_of}
use Rattle.wopi_model.specs.Moment.{IsMoment}
use Rattle.std.specs.List.Sorted.{IsStrictlySortedBy}
use Rattle.std.specs.Ordering.{nat_cmp}
use Rattle.std.specs.Cmp.Lexicographic.{slice_cmp}
use Rattle.wopi_model.specs.File.{File}
use Rattle.wopi_model.specs.Begin.{Begin, new_life}
use Rattle.wopi_model.specs.Host.{Limits}
use Rattle.wopi_model.specs.Shard.{Item, Entry, RisesFrom, entries, stamps}
use Rattle.host_core.specs.Opening.{IsFirstVersion, MayKeep}
use Rattle.host_core.specs.Entries.{Made, told_by}
use Rattle.host_core.specs.Caller.{Sight}
use Rattle.host_core.specs.Facts.{Dates}
use Rattle.host_core.specs.Value.{Book}
use Rattle.host_core.specs.Times.{untimed}
use Rattle.host_table.specs.Histories.{last_stamp, AreNamed, IsSeen}

-- A seat at a shard's lock. Its base is the shard as it was opened.
abbrev pub Place : Type 0 → Type 0
Place F = SeatValue Made (Book F)

-- The pass's number, its last stamp, its weight, when its host opened, the version of the files that it began with, when a
-- shard is full, and its seats by shard.
pub record PassView (F : Type 0) : Type 0 where
  pub number : ℕ
  pub last : ℕ
  pub weight : ℕ
  pub opened : ℕ
  pub first : ℕ
  pub limits : Limits
  pub seats : List (Place F)

-- The locks and the shards as they were opened, by number; when the host opened, the version of the files that it began
-- with, when a shard is full, and how many passes were made.
pub record HostView (F : Type 0) : Type 0 where
  pub locks : List TableId
  pub bases : List (Book F)
  pub opened : ℕ
  pub first : ℕ
  pub limits : Limits
  pub made : ℕ

-- an entry of the pass's own, with its shard and its place, and whether it may be told
pub record Own : Type 0 where
  pub shard : ℕ
  pub place : ℕ
  pub entry : Entry
  pub told : Bool

abbrev pub owned_at : ℕ → ℕ → Option Made → List Own
owned_at shard place None = []
owned_at shard place (Some one) = record { shard = shard; place = place; entry = one.step; told = one.told } ∷ []

-- those of one shard
abbrev pub owned : ℕ → List Made → List ℕ → List Own
owned shard seen [] = []
owned shard seen (place ∷ places) = owned_at shard place (slice_get seen place) ++ owned shard seen places

-- those that may be told
abbrev pub told_own : List Own → List Entry
told_own [] = []
told_own (one ∷ own) = told_by one.told one.entry ++ told_own own

abbrev pub stamp_of : Own → ℕ
stamp_of one = one.entry.stamp

-- into a list by stamp
abbrev pub put_in : Own → List Own → List Own
put_in one [] = one ∷ []
put_in one (first ∷ rest) = if ltb (stamp_of first) (stamp_of one) then first ∷ put_in one rest else one ∷ first ∷ rest

abbrev pub by_stamp : List Own → List Own
by_stamp [] = []
by_stamp (one ∷ rest) = put_in one (by_stamp rest)

-- the pass has an entry of its own at that place
abbrev pub HasOwn : ℕ → Option Made → Type 0
HasOwn number None = ⊥
HasOwn number (Some one) = one.step.pass ≡ number

abbrev pub Owns : ℕ → List Made → List ℕ → Type 0
Owns number seen places = AllByRecursion (λ place. HasOwn number (slice_get seen place)) places

-- the files stand in the order of their names' bytes
abbrev pub AreByName : List (List ℕ × File) → Type 0
AreByName files = IsStrictlySortedBy (slice_cmp nat_cmp) (map (λ file. file.0) files)

module _ {F : Type 0} where
  abbrev pub lock_of : Place F → TableId
  lock_of seat = seat.lock

  abbrev pub base_of : Place F → Option (Book F)
  base_of seat = seat.base

  -- of the shards from that number on
  abbrev pub owned_from : ℕ → List (Place F) → List Own
  owned_from shard [] = []
  owned_from shard (seat ∷ seats) = owned shard seat.seen seat.own ++ owned_from (shard + 1) seats

  -- the pass's own entries, in the order of their stamps, which is the order of its calls
  abbrev pub own_of : PassView F → List Own
  own_of pass = by_stamp (owned_from 0 pass.seats)

  -- a seat with no base sees a shard that begins with nothing
  abbrev pub begin_seen : Option (Book F) → Begin
  begin_seen None = new_life [] 0 1
  begin_seen (Some base) = base.begin

  -- nor is any date told of its files
  abbrev pub dates_seen : Option (Book F) → Dates
  dates_seen None = []
  dates_seen (Some base) = base.dates

  -- the last stamp that was seen of the shard, or the last one before its beginning
  abbrev pub last_seen : Place F → ℕ
  last_seen seat = last_stamp (begin_seen seat.base).last seat.seen

  -- the greatest of all shards, or 0
  abbrev pub top : List (Place F) → ℕ
  top [] = 0
  top (seat ∷ seats) = max (last_seen seat) (top seats)

  abbrev pub locks_of : PassView F → List TableId
  locks_of pass = map lock_of pass.seats

  -- a pass of this host
  pub record IsPassOf (host : HostView F) (pass : PassView F) : Type 0 where
    pub locks : locks_of pass ≡ host.locks
    pub bases : map base_of pass.seats ≡ map Some host.bases

  abbrev pub seen_at : Option (Place F) → List Item
  seen_at None = []
  seen_at (Some seat) = untimed seat.seen

  abbrev pub beginning_at : Option (Place F) → Begin
  beginning_at None = begin_seen None
  beginning_at (Some seat) = begin_seen seat.base

  abbrev pub dates_at : Option (Place F) → Dates
  dates_at None = dates_seen None
  dates_at (Some seat) = dates_seen seat.base

  -- what a pass has seen, as of any caller
  abbrev pub sight_of : PassView F → Sight
  sight_of pass = record {
    own = map (λ one. one.entry) (own_of pass);
    told = told_own (own_of pass);
    pass = pass.number;
    floor = pass.last;
    limits = pass.limits;
    ticked = false;
    home = shard_of;
    begins = λ shard. beginning_at (slice_get pass.seats shard);
    dates = λ shard. dates_at (slice_get pass.seats shard);
    seen = λ shard. seen_at (slice_get pass.seats shard);
  }

  -- The shard of that number, as it was opened. All shards of a host have one opening, also where their lives go on. The files of one that
  -- takes so many calls stand by their names.
  pub record IsBase (opened first : ℕ) (limits : Limits) (shard : ℕ) (base : Book F) : Type 0 where
    pub only : base.only ≡ Some shard
    pub opened_is : base.begin.opened ≡ opened
    pub first_is : base.begin.first ≡ first
    pub limits_is : base.limits ≡ limits
    pub unticked : base.ticked ≡ false
    pub ordered : is_some base.limits.calls ≡ true → AreByName base.begin.files
    pub names : AllByRecursion (λ file. MayKeep base.only file.0) base.begin.files

  abbrev pub AreBases : ℕ → ℕ → Limits → ℕ → List (Book F) → Type 0
  AreBases opened first limits shard [] = ⊤
  AreBases opened first limits shard (base ∷ bases) = IsBase opened first limits shard base × AreBases opened first limits (shard + 1) bases

  -- what a pass keeps of its seat at the shard of that number
  pub record IsSeat (number weight opened first : ℕ) (limits : Limits) (shard : ℕ) (seat : Place F) : Type 0 where
    pub free : seat.taken ≡ None
    pub weight_is : seat.weight ≡ weight
    pub base : Book F
    pub based : seat.base ≡ Some base
    pub is_base : IsBase opened first limits shard base
    pub seen : IsSeen base seat.seen
    pub owns : Owns number seat.seen seat.own

  abbrev pub AreSeats : ℕ → ℕ → ℕ → ℕ → Limits → ℕ → List (Place F) → Type 0
  AreSeats number weight opened first limits shard [] = ⊤
  AreSeats number weight opened first limits shard (seat ∷ seats) = IsSeat number weight opened first limits shard seat × AreSeats number weight opened first limits (shard + 1) seats

  -- a pass that is split off, and what is left of the old one
  abbrev pub given_half : Place F → Place F
  given_half seat = record { lock = seat.lock; seen = seat.seen; own = []; weight = seat.weight / 2; base = seat.base; taken = seat.taken }

  abbrev pub kept_half : Place F → Place F
  kept_half seat = record { lock = seat.lock; seen = seat.seen; own = seat.own; weight = seat.weight - seat.weight / 2; base = seat.base; taken = seat.taken }

  abbrev pub given_pass : ℕ → PassView F → PassView F
  given_pass number pass = record pass { number = number; weight = pass.weight / 2; seats = map given_half pass.seats }

  abbrev pub kept_pass : PassView F → PassView F
  kept_pass pass = record pass { weight = pass.weight - pass.weight / 2; seats = map kept_half pass.seats }

  -- each own entry and each entry that was seen stands in its name's shard
  abbrev pub AreInShards : ℕ → List (Place F) → Type 0
  AreInShards shard [] = ⊤
  AreInShards shard (seat ∷ seats) = AreNamed (Some shard) seat.seen × AreInShards (shard + 1) seats

  -- no stamp that was seen is above that number
  abbrev pub AreBelow : ℕ → List (Place F) → Type 0
  AreBelow last seats = (shard : ℕ) (stamp : ℕ) → Contains (stamps (entries (seen_at (slice_get seats shard)))) stamp → stamp ≤ last

  -- what holds of every pass
  pub record IsPass (pass : PassView F) : Type 0 where
    pub seats : AreSeats pass.number pass.weight pass.opened pass.first pass.limits 0 pass.seats
    pub last_is : pass.last ≡ top pass.seats
    pub wide : length pass.seats ≡ 16
    pub rises : RisesFrom 0 (map stamp_of (own_of pass))

  -- what a pass has seen: its last stamp is the greatest, and each entry stands in its name's shard
  pub record HasSeen (pass : PassView F) : Type 0 where
    pub last_is : pass.last ≡ top pass.seats
    pub below : AreBelow pass.last pass.seats
    pub named : AreInShards 0 pass.seats

  -- what no call changes of a pass
  pub record IsSamePass (old new : PassView F) : Type 0 where
    pub number : new.number ≡ old.number
    pub weight : new.weight ≡ old.weight
    pub opened_is : new.opened ≡ old.opened
    pub first_is : new.first ≡ old.first
    pub limits_is : new.limits ≡ old.limits
    pub locks : locks_of new ≡ locks_of old
    pub bases : map base_of new.seats ≡ map base_of old.seats

  -- what holds of every host
  pub record IsHost (host : HostView F) : Type 0 where
    pub bases : AreBases host.opened host.first host.limits 0 host.bases
    pub wide : length host.locks ≡ 16
    pub many : length host.bases ≡ 16
    pub small : IfSome host.limits.calls (λ calls. calls ≤ 32768)
    pub opened_is : IsMoment host.opened
    pub first_is : IsFirstVersion host.first
