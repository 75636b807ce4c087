-- How a host ends. (Own.)
use Rattle.std.specs.Prelude.{◌≡◌, ◌<◌, ⊤, ℕ, ◌+◌, ◌==◌, ◌^◌, List, [], ◌∷◌, ◌++◌, filter, map, Option, None, Some, unwrap_or, slice_get}
use Rattle.std.specs.List.{AllByRecursion, flat_map}
use mathlib.Core.List.{IsPrefix}
use Rattle.turn_lock.specs.Places.{total, AreAllBelow, longer}
use Rattle.outside.specs.Folder.{Files}
use Rattle.wopi_model.specs.Begin.{Begin, new_life}
use Rattle.wopi_model.specs.Host.{LegalHost, IsInOrder, part_of, shard_of_entry}
use Rattle.wopi_model.specs.Shard.{Opening, Entry, LegalFrom, RisesFrom, stamps}
use Rattle.host_core.specs.Entries.{Made, told_of}
use Rattle.host_core.specs.Notes.{Notes}
use Rattle.host_core.specs.Value.{Book, InMemory, Left, IsLawful}
use Rattle.host_core.specs.Times.{steps_of, last_time, IsTimely}
use Rattle.host_table.specs.Held.{IsTakenApart, IsGiven}
use Rattle.host_table.specs.Journal.{JournalView, AreParts, openings}
use Rattle.host_table.specs.Passes.{Place, PassView, HostView, own_of, told_own, base_of, IsPass}
use Rattle.host_table.specs.Start.{log_in}

module _ {F : Type 0} where
  abbrev pub number_of : PassView F → ℕ
  number_of pass = pass.number

  abbrev pub weight_of : PassView F → ℕ
  weight_of pass = pass.weight

  -- the numbers are those below `made`, each once, and the weights add up to the whole
  pub record IsWhole (made : ℕ) (passes : List (PassView F)) : Type 0 where
    pub numbers : AreAllBelow made (map number_of passes)
    pub weights : total weight_of passes ≡ 2 ^ 62

  -- a seat that took in another
  pub record IsJoined (seat other joined : Place F) : Type 0 where
    pub is : joined ≡ record { lock = seat.lock; seen = longer seat.seen other.seen; own = seat.own ++ other.own; weight = seat.weight + other.weight; base = seat.base; taken = seat.taken }
    pub begins : IsPrefix seat.seen joined.seen
    pub other_begins : IsPrefix other.seen joined.seen

  abbrev pub AreJoined : List (Place F) → List (Place F) → List (Place F) → Type 0
  AreJoined [] [] [] = ⊤
  AreJoined (seat ∷ seats) (other ∷ others) (joined ∷ rest) = IsJoined seat other joined × AreJoined seats others rest
  AreJoined _ _ _ = ⊥

  abbrev pub AreFree : List (Place F) → Type 0
  AreFree seats = AllByRecursion (λ seat. seat.taken ≡ None) seats

  abbrev pub seat_in : Option (Place F) → List (Place F)
  seat_in None = []
  seat_in (Some seat) = seat ∷ []

  -- the passes' seats at one shard
  abbrev pub column : ℕ → List (PassView F) → List (Place F)
  column shard [] = []
  column shard (pass ∷ passes) = seat_in (slice_get pass.seats shard) ++ column shard passes

  abbrev pub places_in : List (Place F) → List ℕ
  places_in [] = []
  places_in (seat ∷ seats) = seat.own ++ places_in seats

  -- a seat that took in all of these
  pub record IsGathered (seats : List (Place F)) (seat : Place F) : Type 0 where
    pub seen : AllByRecursion (λ one. IsPrefix one.seen seat.seen) seats
    pub own : seat.own ≡ places_in seats

  -- the seats are at shards that were opened as the first pass's are
  abbrev pub IsBasedOn : List (PassView F) → List (Place F) → Type 0
  IsBasedOn [] seats = ⊥
  IsBasedOn (pass ∷ passes) seats = map base_of seats ≡ map base_of pass.seats

  -- one seat a shard, which took in those of all passes
  pub record IsJoinOf (passes : List (PassView F)) (seats : List (Place F)) : Type 0 where
    pub passes_are : AllByRecursion IsPass passes
    pub free : AreFree seats
    pub based : IsBasedOn passes seats
    pub weights : AllByRecursion (λ seat. seat.weight ≡ total weight_of passes) seats
    pub gathered : (shard : ℕ) (seat : Place F) → slice_get seats shard ≡ Some seat → IsGathered (column shard passes) seat

  -- what was seen of each shard begins the shard's part
  abbrev pub AreSeen : {S : Type 0} → List (Place S) → List (Left F) → Type 0
  AreSeen [] [] = ⊤
  AreSeen [] (part ∷ parts) = ⊥
  AreSeen (seat ∷ seats) [] = ⊥
  AreSeen (seat ∷ seats) (part ∷ parts) = IsPrefix seat.seen part.made × AreSeen seats parts

  -- a shard at its end
  abbrev pub ended_book : Book (InMemory F) → Left F → F → Book F
  ended_book base part folder = record {
    only = base.only;
    begin = base.begin;
    limits = base.limits;
    dates = base.dates;
    made = part.made;
    time = last_time base.begin.now part.made;
    ticked = base.ticked;
    start = part.start;
    folder = folder;
  }

  -- how many entries a shard may make, where that is bounded
  abbrev pub capacity_of : Book F → ℕ
  capacity_of book = unwrap_or book.limits.calls 0

module _ {F : Type 0} (files : F → Option Files) (faults : F → ℕ) where
  -- each shard was taken apart
  abbrev pub AreTaken : List (Book (InMemory F)) → List (Left F) → List F → Type 0
  AreTaken [] [] [] = ⊤
  AreTaken (book ∷ books) (part ∷ parts) (folder ∷ folders) = IsTakenApart files faults book part folder × AreTaken books parts folders
  AreTaken _ _ _ = ⊥

  -- What a shard leaves is of the shard that was opened with those files, and its folder is as the last step left it: it holds what the
  -- entries leave, and its count rose by each store call that failed.
  pub record IsEnded (opened first : ℕ) (base : Book (InMemory F)) (part : Left F) (folder : F) : Type 0 where
    pub begin : base.begin ≡ new_life part.opening opened first
    pub dates : base.dates ≡ part.dates
    pub start : part.start ≡ base.start.folder
    pub timely : IsTimely opened part.made
    pub lawful : IsLawful (ended_book base part folder) (files part.start) (files folder) (faults part.start) (faults folder)

  abbrev pub AreEnded : ℕ → ℕ → List (Book (InMemory F)) → List (Left F) → List F → Type 0
  AreEnded opened first [] [] [] = ⊤
  AreEnded opened first (base ∷ bases) (part ∷ parts) (folder ∷ folders) = IsEnded opened first base part folder × AreEnded opened first bases parts folders
  AreEnded opened first _ _ _ = ⊥

  -- the journal of a host and of all its passes, which has no entry of another, and the folders
  pub record Ends (host : HostView (InMemory F)) (passes : List (PassView (InMemory F))) (journal : JournalView F) (folders : List F) : Type 0 where
    pub opened_is : journal.opened ≡ host.opened
    pub first_is : journal.first ≡ host.first
    pub legal : LegalHost (openings journal.parts) journal.opened journal.first (steps_of journal.merge)
    pub parts : AreParts journal.merge 0 journal.parts
    pub ended : AreEnded host.opened host.first host.bases journal.parts folders
    pub seen : AllByRecursion (λ pass. AreSeen pass.seats journal.parts) passes
    pub passes_are : AllByRecursion (λ one. one.step.pass < host.made) journal.merge
    pub own : AllByRecursion (λ pass. filter (λ entry. entry.pass == pass.number) (steps_of journal.merge) ≡ map (λ one. one.entry) (own_of pass)) passes

-- entries that one host may make whose shards began like that
pub record LegalLives (begins : List Begin) (merge : List Entry) : Type 0 where
  pub ordered : IsInOrder merge
  pub shards : (shard : ℕ) (begin : Begin) → slice_get begins shard ≡ Some begin → LegalFrom begin (part_of shard merge)
  pub passes : (pass : ℕ) → RisesFrom 0 (stamps (filter (λ entry. entry.pass == pass) merge))

module _ {F : Type 0} where
  abbrev pub begin_of : Book F → Begin
  begin_of book = book.begin

  -- a shard at its end, with the entries that its store noted
  abbrev pub noted_book : Book F → List Made → F → Book F
  noted_book base made store = record base { made = made; time = last_time base.begin.now made; folder = store }

module _ {F : Type 0} (notes : F → Notes) where
  -- what was seen of each shard begins what its store noted
  abbrev pub AreSeenIn : {S : Type 0} → List (Place S) → List F → Type 0
  AreSeenIn [] [] = ⊤
  AreSeenIn [] (store ∷ stores) = ⊥
  AreSeenIn (seat ∷ seats) [] = ⊥
  AreSeenIn (seat ∷ seats) (store ∷ stores) = IsPrefix seat.seen (notes store).made × AreSeenIn seats stores

  -- what each store noted are the entries of the merge that stand in its shard
  abbrev pub AreNotedParts : List Made → ℕ → List F → Type 0
  AreNotedParts merge shard [] = ⊤
  AreNotedParts merge shard (store ∷ stores) = ((notes store).made ≡ filter (λ one. shard_of_entry one.step == shard) merge) × AreNotedParts merge (shard + 1) stores

module _ {F : Type 0} (files : F → Option Files) (faults : F → ℕ) (notes : F → Notes) where
  -- each shard gave its store
  abbrev pub AreGiven : List (Book F) → List F → Type 0
  AreGiven [] [] = ⊤
  AreGiven [] (store ∷ stores) = ⊥
  AreGiven (book ∷ books) [] = ⊥
  AreGiven (book ∷ books) (store ∷ stores) = IsGiven files faults notes book store × AreGiven books stores

  -- A store at the end of the shard that was opened like that. It noted what the shard began with, and entries with which time went on, and none is begun. It is as
  -- the last step left it: it holds what the entries leave, and its count rose by each store call that failed.
  pub record IsNoted (base : Book F) (store : F) : Type 0 where
    pub begin : (notes store).begin ≡ base.begin
    pub ended : (notes store).begun ≡ None
    pub timely : IsTimely base.begin.now (notes store).made
    pub lawful : IsLawful (noted_book base (notes store).made store) (files base.start) (files store) (faults base.start) (faults store)

  abbrev pub AreNoted : List (Book F) → List F → Type 0
  AreNoted [] [] = ⊤
  AreNoted [] (store ∷ stores) = ⊥
  AreNoted (base ∷ bases) [] = ⊥
  AreNoted (base ∷ bases) (store ∷ stores) = IsNoted base store × AreNoted bases stores

  -- The stores of a host and of all its passes. All that they noted is one list of entries that the host may make, also as one that was opened anew
  -- where each shard began a new life. It has no entry of another, and a pass was told just those of its own that may be told. The log of each
  -- store is the one that it was handed in with.
  pub record Leaves (host : HostView F) (passes : List (PassView F)) (stores : List F) : Type 0 where
    pub merge : List Made
    pub legal : LegalLives (map begin_of host.bases) (steps_of merge)
    pub anew : (stood : List Opening) → map begin_of host.bases ≡ map (λ opening. new_life opening host.opened host.first) stood
        → LegalHost (flat_map (λ opening. opening) stood) host.opened host.first (steps_of merge)
    pub parts : AreNotedParts notes merge 0 stores
    pub noted : AreNoted host.bases stores
    pub logs : map (log_in notes) stores ≡ map (λ base. (notes base.start).log) host.bases
    pub seen : AllByRecursion (λ pass. AreSeenIn notes pass.seats stores) passes
    pub passes_are : AllByRecursion (λ one. one.step.pass < host.made) merge
    pub own : AllByRecursion (λ pass. filter (λ entry. entry.pass == pass.number) (steps_of merge) ≡ map (λ one. one.entry) (own_of pass)) passes
    pub told : AllByRecursion (λ pass. told_of (filter (λ one. one.step.pass == pass.number) merge) ≡ told_own (own_of pass)) passes
