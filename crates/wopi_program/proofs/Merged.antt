-- What the end of a host says of its entries, over stores of any kind.
use Rattle.std.proofs.Common.{◌≡◌, ℕ, suc, ◌<◌, ◌==◌, List, [], ◌∷◌, length, map, filter, Option, refl, ap}
use Rattle.std.specs.List.{AllByRecursion}
use Rattle.outside.specs.Folder.{Files}
use Rattle.wopi_model.specs.Begin.{new_life}
use Rattle.host_core.specs.Value.{Book, InMemory, Left}
use Rattle.host_core.specs.Times.{steps_of}
use Rattle.host_table.specs.Journal.{JournalView}
use Rattle.host_table.specs.Passes.{HostView, PassView, own_of}
use Rattle.host_table.specs.Close.{AreSeen, AreEnded, Ends}

module _ {T F : Type 0} where
  -- what a shard leaves is of the shard that was opened with those files
  pub record IsBased (opened first : ℕ) (base : Book T) (part : Left F) : Type 0 where
    pub begin : base.begin ≡ new_life part.opening opened first
    pub dates : base.dates ≡ part.dates

  abbrev pub AreBased : ℕ → ℕ → List (Book T) → List (Left F) → Type 0
  AreBased opened first [] [] = Unit {0}
  AreBased opened first [] (part ∷ parts) = ⊥
  AreBased opened first (base ∷ bases) [] = ⊥
  AreBased opened first (base ∷ bases) (part ∷ parts) = IsBased opened first base part × AreBased opened first bases parts

  -- the journal of a host and of all its passes, which has no entry of another
  pub record IsMerged (host : HostView T) (passes : List (PassView T)) (journal : JournalView F) : Type 0 where
    pub opened_is : journal.opened ≡ host.opened
    pub first_is : journal.first ≡ host.first
    pub based : AreBased host.opened host.first host.bases journal.parts
    pub seen : AllByRecursion (λ pass. AreSeen pass.seats journal.parts) passes
    pub passes_are : AllByRecursion (λ one. one.step.pass < host.made) journal.merge
    pub own : AllByRecursion (λ pass. filter (λ entry. entry.pass == pass.number) (steps_of journal.merge) ≡ map (λ one. one.entry) (own_of pass)) passes

  -- a host leaves a part of each of its shards
  pub based_many : (opened first : ℕ) (bases : List (Book T)) (parts : List (Left F)) → AreBased opened first bases parts → length parts ≡ length bases
  based_many opened first [] [] based = refl
  based_many opened first [] (part ∷ parts) based = absurd based
  based_many opened first (base ∷ bases) [] based = absurd based
  based_many opened first (base ∷ bases) (part ∷ parts) based = ap suc (based_many opened first bases parts based.1)

module _ {F : Type 0} (files : F → Option Files) (faults : F → ℕ) where
  based_of_ended : (opened first : ℕ) (bases : List (Book (InMemory F))) (parts : List (Left F)) (folders : List F) → AreEnded files faults opened first bases parts folders
      → AreBased opened first bases parts
  based_of_ended opened first [] [] [] ended = tt
  based_of_ended opened first [] [] (folder ∷ folders) ended = absurd ended
  based_of_ended opened first [] (part ∷ parts) folders ended = absurd ended
  based_of_ended opened first (base ∷ bases) [] folders ended = absurd ended
  based_of_ended opened first (base ∷ bases) (part ∷ parts) [] ended = absurd ended
  based_of_ended opened first (base ∷ bases) (part ∷ parts) (folder ∷ folders) ended =
      (record { begin = ended.0.begin; dates = ended.0.dates }, based_of_ended opened first bases parts folders ended.1)

  pub merged_of_ends : (host : HostView (InMemory F)) (passes : List (PassView (InMemory F))) (journal : JournalView F) (folders : List F) → Ends files faults host passes journal folders
      → IsMerged host passes journal
  merged_of_ends host passes journal folders ends = record {
    opened_is = ends.opened_is;
    first_is = ends.first_is;
    based = based_of_ended host.opened host.first host.bases journal.parts folders ends.ended;
    seen = ends.seen;
    passes_are = ends.passes_are;
    own = ends.own;
  }
