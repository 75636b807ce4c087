-- What is answered at the container. (MS-WOPI; that a token which doesn't count is 401 is own.)
use Rattle.std.specs.Prelude.{ℕ, ◌≡◌, ◌≤◌, ◌<◌, List, [], None, length}
use Rattle.wopi_text.specs.declared.lock_field.LockField.TheVariants.{Absent}
use Rattle.wopi_headers.specs.declared.answer.Answer.{Answer}
use Rattle.wopi_headers.specs.declared.answer.BodyKind.TheVariants.{None as NoBody, Json}
use Rattle.wopi_headers.specs.declared.container.ContainerAsk.{ContainerAsk}
use Rattle.wopi_headers.specs.declared.container.ContainerOp.TheVariants.{Info, Children}
use Rattle.access_tokens.specs.declared.keys.Keys.{Keys}
use Rattle.host_core.specs.declared.children.Child.{Child}
use Rattle.host_core.specs.declared.listing.Listing.{Listing}
use Rattle.host_core.specs.Caller.{Sight}
use Rattle.host_core.specs.Listing.{AreListed, LooksOn}
use Rattle.containers.specs.Listed.{AreMerged, container_info, listing_text}
use Rattle.containers.specs.TokenText.{IsSigned}
use Rattle.containers.specs.declared.token.ContainerToken.{ContainerToken}

-- The text reads as this token under the keys, and the token counts at the moment: it was issued at or behind the opening, and hasn't expired.
pub record Counts (keys : Keys) (opened : ℕ) (text : List ℕ) (moment : ℕ) (token : ContainerToken) : Type 0 where
  pub signed : IsSigned keys text token
  pub begun : opened ≤ token.issued
  pub lasts : moment < token.expires

abbrev pub unauthorized : Answer
unauthorized = record { status = 401; lock = Absent; reason = None; version = None; kind = NoBody; body = [] }

abbrev pub json_told : List ℕ → Answer
json_told body = record { status = 200; lock = Absent; reason = None; version = None; kind = Json; body = body }

-- What is answered at a moment, and the listings that it is made of: one of each of so many shards, in order, where the children
-- are asked for under a token that counts, and else none.
pub data ContainerAnswered (shards : ℕ) (keys : Keys) (base : List ℕ) (opened : ℕ) (ask : ContainerAsk) (moment : ℕ) (listings : List Listing) (a : Answer) : Type 0 where
  refused : ((token : ContainerToken) → ¬ (Counts keys opened ask.token moment token)) → listings ≡ [] → a ≡ unauthorized
      → ContainerAnswered shards keys base opened ask moment listings a
  told : (token : ContainerToken) → Counts keys opened ask.token moment token → ask.op ≡ Info → listings ≡ [] → a ≡ json_told container_info
      → ContainerAnswered shards keys base opened ask moment listings a
  listed : (token : ContainerToken) (children : List Child) → Counts keys opened ask.token moment token → ask.op ≡ Children
      → length listings ≡ shards → AreMerged listings children → a ≡ json_told (listing_text keys base token moment children)
      → ContainerAnswered shards keys base opened ask moment listings a

-- How the listings were come by: each shows its shard, by their order, after all that is then seen of it, no entry was made, and
-- where there are none nothing was looked at.
pub record AreShown (old new : Sight) (listings : List Listing) : Type 0 where
  pub each : AreListed new 0 listings
  pub looks : LooksOn old new
  pub still : listings ≡ [] → new ≡ old
