-- When a shard is nearly full. (Own.)
use Rattle.std.specs.Prelude.{◌≡◌, ◌⊎◌, ℕ, ◌*◌, ◌≤◌, List, Option, None, Some, length}
use Rattle.wopi_model.specs.Begin.{Begin}
use Rattle.wopi_model.specs.Lives.{left_of, live_bytes}
use Rattle.wopi_model.specs.Host.{kept, kept_from, most_kept}
use Rattle.wopi_model.specs.Shard.{Opening, Item, entries}
use Rattle.host_core.specs.Caller.{Sight}

-- How many bytes count: all that it began with and that were accepted; or those of its files, where it takes any number of entries.
abbrev pub AreBytes : Option ℕ → Begin → List Item → ℕ → Type 0
AreBytes None begin history bytes = bytes ≡ live_bytes (left_of begin history).files
AreBytes (Some calls) begin history bytes = bytes ≡ kept_from begin history

-- Nine tenths of the entries that it may make were made, or of the bytes that it may keep are kept; over a store that takes any number of
-- entries, its files have nine tenths of the bytes that they may have.
abbrev pub IsNearlyFull : Option ℕ → Begin → List Item → Type 0
IsNearlyFull None begin history = 9 * most_kept ≤ 10 * live_bytes (left_of begin history).files
IsNearlyFull (Some calls) begin history = (9 * calls ≤ 10 * length (entries history)) ⊎ (9 * most_kept ≤ 10 * kept_from begin history)

-- the same of a shard as a caller has seen it
abbrev pub IsNearlyFullAt : Sight → ℕ → Type 0
IsNearlyFullAt sight shard = IsNearlyFull sight.limits.calls (sight.begins shard) (sight.seen shard)

-- of a shard that has ended: it could make so many entries, and opened with these files
abbrev pub WasNearlyFull : ℕ → Opening → List Item → Type 0
WasNearlyFull capacity opening history = (9 * capacity ≤ 10 * length (entries history)) ⊎ (9 * most_kept ≤ 10 * kept opening history)
