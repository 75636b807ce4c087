-- What a listing shows, and what asking for one leaves. (Own.)
use Rattle.std.specs.Prelude.{◌≡◌, ⊤, ℕ, ◌+◌, List, [], ◌∷◌, length}
use Rattle.std.specs.List.{AllByRecursion}
use Rattle.wopi_model.specs.Begin.{Begin}
use Rattle.wopi_model.specs.Shard.{Item, begun, after, entries}
use Rattle.host_core.specs.declared.listing.Listing.{Listing}
use Rattle.host_core.specs.Caller.{Sight, Extends, FramesAt}
use Rattle.host_core.specs.Children.{AreChildren}

-- The listing shows the shard of that number after this history: `place` is how many entries stand there, and the children are
-- the files that exist then.
pub record IsListing (shard : ℕ) (begin : Begin) (history : List Item) (listing : Listing) : Type 0 where
  pub shard_is : listing.shard ≡ shard
  pub place_is : listing.place ≡ length (entries history)
  pub children_are : AreChildren (after (begun begin) history).files listing.children

-- The listing shows the shard of that number after all that was seen of it, and each child's name is of this shard.
pub record Lists (sight : Sight) (shard : ℕ) (listing : Listing) : Type 0 where
  pub shows : IsListing shard (sight.begins shard) (sight.seen shard) listing
  pub homes : AllByRecursion (λ child. sight.home child.name ≡ shard) listing.children

-- What asking for a listing of that shard leaves, whatever comes of it: no entry is made, what is seen of the shard begins with
-- what was seen before, and the rest stays.
pub record LooksAt (old new : Sight) (shard : ℕ) : Type 0 where
  pub own : new.own ≡ old.own
  pub told : new.told ≡ old.told
  pub begins : Extends (entries (old.seen shard)) (entries (new.seen shard))
  pub rest : FramesAt old new shard

-- listings of the shards from that number on
abbrev pub AreListed : Sight → ℕ → List Listing → Type 0
AreListed sight shard [] = ⊤
AreListed sight shard (listing ∷ listings) = Lists sight shard listing × AreListed sight (shard + 1) listings

-- one listing per shard, in order, of so many shards
pub record ListsAll (count : ℕ) (sight : Sight) (listings : List Listing) : Type 0 where
  pub all : length listings ≡ count
  pub each : AreListed sight 0 listings

-- What no call and no listing changes, and what only grows.
pub record Follows (old new : Sight) : Type 0 where
  pub seen : (shard : ℕ) → Extends (entries (old.seen shard)) (entries (new.seen shard))
  pub begins : (shard : ℕ) → new.begins shard ≡ old.begins shard
  pub dates : (shard : ℕ) → new.dates shard ≡ old.dates shard
  pub home : (name : List ℕ) → new.home name ≡ old.home name
  pub pass : new.pass ≡ old.pass
  pub limits : new.limits ≡ old.limits
  pub ticked : new.ticked ≡ old.ticked

-- what asking for listings of any shards leaves
pub record LooksOn (old new : Sight) : Type 0 where
  pub own : new.own ≡ old.own
  pub told : new.told ≡ old.told
  pub follows : Follows old new
