-- How much there is in a world after some lines of a schedule. (Own.)
use Rattle.std.specs.Prelude.{◌≡◌, ◌<◌, ◌≤◌, ◌+◌, ◌*◌, ◌==◌, ℕ, [], ◌∷◌, List, length, Some, unwrap_or, if◌then◌else◌}
use Rattle.std.specs.List.{slice_get}
use Rattle.wopi_model.specs.Shard.{Shard, Entry, Tick, Step, entries, stamps, last_from}
use Rattle.wopi_model.specs.Host.{new_bytes}
use Rattle.wopi_world.specs.History.{Item, Ran, Restarted, last_run}
use Rattle.wopi_world.specs.Requests.{body}
use Rattle.wopi_world.specs.World.{World, Request}
use Rattle.schedule_text.specs.Schedules.{most_contents, most_lines}

-- the bytes of contents that an entry keeps
abbrev pub kept_by : Entry → ℕ
kept_by entry = if entry.ruling.status == 200 then new_bytes entry.call.act else 0

-- the bytes that all entries keep, over restarts
abbrev pub kept_in : List Item → ℕ
kept_in [] = 0
kept_in (Ran (Tick moment) ∷ items) = kept_in items
kept_in (Ran (Step entry) ∷ items) = kept_by entry + kept_in items
kept_in (Restarted moment first ∷ items) = kept_in items

-- Since the last restart there are so many entries at most, and no stamp of them is greater; all entries keep so many bytes at most.
pub record HoldsAtMost (count bytes : ℕ) (history : List Item) : Type 0 where
  pub few : length (entries (last_run history)) ≤ count
  pub last : last_from 0 (stamps (entries (last_run history))) ≤ count
  pub small : kept_in history ≤ bytes

-- no version is greater, and no file has longer contents than a line's
pub record IsLow (most : ℕ) (shard : Shard) : Type 0 where
  pub first : shard.first ≤ most
  pub versions : (name : List ℕ) → (shard.files name).version ≤ most
  pub short : (name : List ℕ) → length (unwrap_or (shard.files name).contents []) ≤ most_contents

-- What so many lines leave at most: two entries, two versions and a line's contents for each of them. No request was sent with
-- longer contents than a line's, nor has a session such contents to save.
pub record IsWithin (count : ℕ) (world : World) : Type 0 where
  pub held : HoldsAtMost (2 * count) (most_contents * count) world.history
  pub files : IsLow (2 * count + 1) world.shard
  pub sent : (place : ℕ) (request : Request) → slice_get world.requests place ≡ Some request → length (body request.op) ≤ most_contents
  pub wanted : (s : ℕ) → length (unwrap_or (world.members s).session.body []) ≤ most_contents

-- the world is one after fewer lines than a schedule may have
pub record HasSpace (world : World) : Type 0 where
  pub count : ℕ
  pub fewer : count < most_lines
  pub within : IsWithin count world
