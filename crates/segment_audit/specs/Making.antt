-- Entries that a shard made, and the lines of its log. (Own.)
use Rattle.std.specs.Prelude.{◌≡◌, ⊤, ℕ, ◌<◌, ◌≤◌, true, false, List, [], ◌∷◌, Option}
use Rattle.wopi_model.specs.Begin.{Begin, at_name}
use Rattle.wopi_model.specs.Host.{shard_of_entry}
use Rattle.wopi_model.specs.Shard.{IsAllowed, Shard, Step, at_moment, happens}
use Rattle.host_core.specs.Entries.{Made}
use Rattle.host_table.specs.Bounds.{IsBounded}
use Rattle.host_log.specs.Rows as log
use Rattle.host_log.specs.Rows.{Counts, TakenBack}
use Rattle.journal_audit.specs.Judging.{IsSize}
use Rattle.journal_segments.specs.declared.rows.Row.{Row}
use Rattle.journal_segments.specs.declared.rows.Row.TheVariants as row
use Rattle.journal_segments.specs.Told.{Told, begin_of, size_told, unmet}
use Rattle.segment_audit.specs.Sizes.{zeros}

-- ---- what a beginning leaves open

-- contents of the sizes that are told
abbrev pub HasSizes : (List ℕ → Option (List ℕ)) → Told → Type 0
HasSizes folder told = (name : List ℕ) → IsSize (folder name) (size_told (at_name (unmet told.first) told.files name).contents)

-- those of as many zero bytes
abbrev pub zeros_in : Told → List ℕ → Option (List ℕ)
zeros_in told name = zeros (size_told (at_name (unmet told.first) told.files name).contents)

-- what a shard begins with that goes on from what is told, with such contents
abbrev pub begin_told : Told → Begin
begin_told told = begin_of (zeros_in told) told

-- the lines of entries, and of what takes them back: none tells what stands under a name
abbrev pub AreLogged : List Row → Type 0
AreLogged [] = ⊤
AreLogged (row.Entry line ∷ rows) = AreLogged rows
AreLogged (row.Off ∷ rows) = AreLogged rows
AreLogged (other ∷ rows) = ⊥

-- ---- what a shard may have made

-- an entry of the shard of that number, which may be made behind one of that stamp
pub record MayBeMade (shard : Shard) (number last : ℕ) (one : Made) : Type 0 where
  pub own : shard_of_entry one.step ≡ number
  pub bounded : IsBounded one
  pub rises : last < one.step.stamp
  pub late : shard.now ≤ one.time
  pub soon : one.step.moment ≤ one.time
  pub allowed : IsAllowed (at_moment shard one.time) (Step one.step)

-- Entries were made one after another. One that was taken back was an accepted save or removal, and left no trace.
abbrev pub AreMade : Shard → ℕ → ℕ → List log.Row → Type 0
AreMade shard number last [] = ⊤
AreMade shard number last (Counts one ∷ rows) =
    MayBeMade shard number last one × AreMade (happens (at_moment shard one.time) (Step one.step)) number one.step.stamp rows
AreMade shard number last (TakenBack one ∷ rows) =
    MayBeMade shard number last one × (log.is_synced false one ≡ true) × AreMade shard number last rows
