-- What listings show, in the terms of a history.
use Rattle.std.proofs.Common.{◌≡◌, ◌<◌, ℕ, false, List, [], ◌∷◌, ◌++◌, length, map, refl, sym, ap, ◌∙◌, subst, append-nil, arith}
use Rattle.wopi_text.specs.FileName.{shard_of}
use Rattle.wopi_model.specs.Begin.{Begin, new_life}
use Rattle.wopi_model.specs.Shard.{Opening, Item, Step, Entry}
use Rattle.host_core.specs.Caller.{Sight}
use Rattle.host_core.specs.Listing.{AreListed, IsListing}
use Rattle.host_core.specs.Single.{SeesItsOwn}
use Rattle.host_core.specs.declared.listing.Listing.{Listing}
use Rattle.host_table.specs.Seated.{SeesShards}
use Rattle.host_server.specs.Deeds.{Deed, Made, MadeFor, Blocked, Listed, AreOfAll, IsBetween, AreMet}
use Rattle.wopi_program.specs.Files.{AreShownIn}

-- the same listing of the same history
pub listing_of : (shard : ℕ) (begin begin' : Begin) (history history' : List Item) (listing : Listing) → begin ≡ begin' → history ≡ history' → IsListing shard begin history listing → IsListing shard begin' history' listing
listing_of shard begin begin' history history' listing a b h =
    subst (λ l. IsListing shard begin' l listing) b (subst (λ z. IsListing shard z history listing) a h)

last_name : shard_of (15 ∷ []) ≡ 15
last_name = refl

below_sixteen : (name : List ℕ) → shard_of name < 16
below_sixteen name = omega arith

-- listings of all shards that names have are sixteen
pub of_sixteen : (sight : Sight) (listings : List Listing) → SeesShards sight → AreOfAll sight listings → length listings ≡ 16
of_sixteen sight listings sees all =
    let most : 15 < length listings = subst (λ n. n < length listings) (sees.home (15 ∷ []) ∙ last_name) (all.homes (15 ∷ [])) in
    omega (arith, most, no_more)
  where
    no_more : 16 < length listings → ⊥
    no_more many =
        let one = all.reaches 16 many in
        let here : shard_of one.0 ≡ 16 = sym (sees.home one.0) ∙ one.1 in
        let low = below_sixteen one.0 in
        omega (arith, here, low)

-- and of a caller that has one shard alone they are one
one_alone : (sight : Sight) (listings : List Listing) → SeesItsOwn sight → AreOfAll sight listings → (listing : Listing) × (listings ≡ listing ∷ [])
one_alone sight [] sees all = let none : sight.home [] < 0 = all.homes [] in absurd (omega (arith, none))
one_alone sight (listing ∷ []) sees all = (listing, refl)
one_alone sight (listing ∷ (second ∷ listings)) sees all =
    let one = all.reaches 1 (omega arith) in
    let here : 0 ≡ 1 = sym (sees.home one.0) ∙ one.1 in
    absurd (omega (arith, here))

module _ (opening : Opening) (opened first : ℕ) (new : Sight) where
  -- a sight of the shard, with time set nowhere apart from an entry
  pub record IsAfter (at : Sight) (so_far : List Entry) : Type 0 where
    pub begin_is : at.begins 0 ≡ new_life opening opened first
    pub calm : at.ticked ≡ false
    pub own_is : at.own ≡ so_far

  stays_after : (at before after : Sight) (so_far by_deed : List Entry) → IsAfter at so_far → IsBetween SeesItsOwn at new by_deed before after → IsAfter after (so_far ++ by_deed)
  stays_after at before after so_far by_deed is way = record {
    begin_is = way.second.begins 0 ∙ way.first.begins 0 ∙ is.begin_is;
    calm = way.second.ticked ∙ way.first.ticked ∙ is.calm;
    own_is = way.own_after ∙ ap (λ l. l ++ by_deed) is.own_is;
  }

  with_none : (at : Sight) (so_far : List Entry) → IsAfter at (so_far ++ []) → IsAfter at so_far
  with_none at so_far is = subst (IsAfter at) (append-nil so_far) is

  -- the listing of the one shard shows it after just the entries so far
  shown_one : (at : Sight) (so_far : List Entry) (listing : Listing) → IsAfter at so_far → SeesItsOwn at → AreListed at 0 (listing ∷ [])
      → IsListing 0 (new_life opening opened first) (map Step so_far) listing
  shown_one at so_far listing is sees listed =
      listing_of 0 (at.begins 0) (new_life opening opened first) (at.seen 0) (map Step so_far) listing is.begin_is
      (sees.alone is.calm ∙ ap (λ (l : List Entry). map Step l) is.own_is) listed.0.shows

  pub all_shown : (at : Sight) (so_far : List Entry) (deeds : List Deed) → IsAfter at so_far → AreMet SeesItsOwn at new deeds → AreShownIn opening opened first so_far deeds
  all_shown at so_far [] is met = tt
  all_shown at so_far (Made entry ∷ deeds) is met =
      let finds = met.0 in
      all_shown finds.after (so_far ++ entry ∷ []) deeds (stays_after at finds.before finds.after so_far (entry ∷ []) is finds.between) met.1
  all_shown at so_far (MadeFor one ∷ deeds) is met =
      let finds = met.0 in
      all_shown finds.after (so_far ++ one.entry ∷ []) deeds (stays_after at finds.before finds.after so_far (one.entry ∷ []) is finds.between) met.2
  all_shown at so_far (Blocked call moment before after ∷ deeds) is met =
      all_shown after so_far deeds (with_none after so_far (stays_after at before after so_far [] is met.0.between)) met.1
  all_shown at so_far (Listed listings ∷ deeds) is met =
      let finds = met.0 in
      let later = with_none finds.after so_far (stays_after at finds.before finds.after so_far [] is finds.between) in
      let one = one_alone finds.after listings finds.between.always_after finds.all in (
        one.0,
        one.1,
        shown_one finds.after so_far one.0 later finds.between.always_after (subst (AreListed finds.after 0) one.1 finds.shown),
        all_shown finds.after so_far deeds later met.1,
      )
