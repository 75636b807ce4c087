-- From an answer at the container to the deed of listing.
use Rattle.std.proofs.Common.{◌≡◌, ◌<◌, ℕ, List, [], ◌∷◌, length, Result, Ok, Err, refl, sym, ◌∙◌, subst, inl, append-nil}
use Rattle.std.specs.Prelude.{IfOk}
use Rattle.wopi_text.specs.declared.faults.Memory.{Memory}
use Rattle.wopi_headers.specs.declared.answer.Answer.{Answer}
use Rattle.wopi_headers.specs.declared.container.ContainerAsk.{ContainerAsk}
use Rattle.host_core.specs.Caller.{Sight, HasFloor}
use Rattle.host_core.specs.Listing.{LooksOn}
use Rattle.host_core.specs.declared.listing.Listing.{Listing}
use Rattle.containers.specs.Answers.{AreShown, ContainerAnswered}
use Rattle.containers.specs.Answers.ContainerAnswered.{refused, told, listed}
use Rattle.containers.proofs.Looks.{Follows-same}
use Rattle.host_server.specs.declared.desk.Desk.{Desk}
use Rattle.host_server.specs.Deeds.{Listed, AreOfAll, FindsFiles, Does}
use Rattle.host_server.specs.Answering.{Contained}
use Rattle.host_server.specs.Calls.{Tells}

module _ (desk : Desk) (ask : ContainerAsk) (moment shards : ℕ) where
  -- the listings of an answer at the container, between these sights
  abbrev pub Answers : Sight → Sight → Answer → Type 0
  Answers old new a = (listings : List Listing) × ContainerAnswered shards desk.keys desk.base desk.opened ask moment listings a × AreShown old new listings

  -- where there are some, there is one of each shard
  one_of_each : (listing : Listing) (listings : List Listing) (a : Answer)
      → ContainerAnswered shards desk.keys desk.base desk.opened ask moment (listing ∷ listings) a → length (listing ∷ listings) ≡ shards
  one_of_each listing listings a (refused none is said) = absurd (cc is)
  one_of_each listing listings a (told token counts op is said) = absurd (cc is)
  one_of_each listing listings a (listed token children counts op all merged said) = all

  module _ (always : Sight → Type 0) (old new : Sight) (some : 0 < shards) (homes : (name : List ℕ) → new.home name < shards)
      (reaches : (shard : ℕ) → shard < shards → (name : List ℕ) × (new.home name ≡ shard)) (floor : HasFloor old) (before : always old) (after : always new)
      (looks : LooksOn old new) where
    looked : Does always old new []
    looked = record { own = looks.own ∙ sym (append-nil old.own); follows = looks.follows; met = tt }

    of_all : (listings : List Listing) → length listings ≡ shards → AreOfAll new listings
    of_all listings all = record {
      homes = λ name. subst (λ n. new.home name < n) (sym all) (homes name);
      reaches = λ shard inside. reaches shard (subst (λ n. shard < n) all inside);
    }

    files_found : (listings : List Listing) → length listings ≡ shards → AreShown old new listings → FindsFiles always old new listings
    files_found listings all shown = record {
      before = old;
      after = new;
      all = of_all listings all;
      shown = shown.each;
      between = record {
        own_before = refl;
        own_after = looks.own ∙ sym (append-nil old.own);
        first = Follows-same old;
        second = looks.follows;
        third = Follows-same new;
        floor = floor;
        always_before = before;
        always_after = after;
      };
    }

    pub container_tells : (r : Result Answer Memory) → IfOk r (Answers old new) → Tells (Contained desk ask moment) always old new r
    container_tells (Err fault) h = ([], looked, inl refl)
    container_tells (Ok a) ([], answered, shown) =
        ([], looked, record { shards = shards; some = some; listings = []; answered = answered; deeds_are = refl })
    container_tells (Ok a) (listing ∷ listings, answered, shown) = (
      Listed (listing ∷ listings) ∷ [],
      record {
        own = looks.own ∙ sym (append-nil old.own);
        follows = looks.follows;
        met = (files_found (listing ∷ listings) (one_of_each listing listings a answered) shown, tt);
      },
      record { shards = shards; some = some; listings = listing ∷ listings; answered = answered; deeds_are = refl },
    )
