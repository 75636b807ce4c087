-- What listings over one shard show. (Own.)
use Rattle.std.specs.Prelude.{◌≡◌, ⊤, ℕ, List, [], ◌∷◌, ◌++◌, map}
use Rattle.wopi_model.specs.Shard.{Opening, Step, Entry}
use Rattle.wopi_model.specs.Begin.{new_life}
use Rattle.host_core.specs.Listing.{IsListing}
use Rattle.host_core.specs.declared.listing.Listing.{Listing}
use Rattle.host_server.specs.Deeds.{Deed, Made, MadeFor, Blocked, Listed}

-- Where the files are listed there is one listing, and it shows the shard after just the entries that were made before.
abbrev pub AreShownIn : Opening → ℕ → ℕ → List Entry → List Deed → Type 0
AreShownIn opening opened first so_far [] = ⊤
AreShownIn opening opened first so_far (Made entry ∷ deeds) = AreShownIn opening opened first (so_far ++ entry ∷ []) deeds
AreShownIn opening opened first so_far (MadeFor one ∷ deeds) = AreShownIn opening opened first (so_far ++ one.entry ∷ []) deeds
AreShownIn opening opened first so_far (Blocked call moment before after ∷ deeds) = AreShownIn opening opened first so_far deeds
AreShownIn opening opened first so_far (Listed listings ∷ deeds) =
    (listing : Listing) × (listings ≡ listing ∷ []) × IsListing 0 (new_life opening opened first) (map Step so_far) listing
    × AreShownIn opening opened first so_far deeds
