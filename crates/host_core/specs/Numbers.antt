-- The files of a shard by their numbers.
use Rattle.std.specs.Prelude.{◌≡◌, ℕ, ◌≤◌, List, length, map}
use Rattle.kept_locks.specs.Locks.{Locks, unlocked}
use Rattle.name_index.specs.Index.{number_of}
use Rattle.host_core.specs.declared.file.KeptFile.{KeptFile}
use Rattle.host_core.specs.Names.{place_in}
use Rattle.host_core.specs.Turns.{AreAsOf}
use Rattle.host_core.specs.Whole.{standing_at}

abbrev pub named : List KeptFile → List (List ℕ)
named files = map (λ kept. kept.name) files

-- each name has the number of its place
abbrev pub IsNumbered : List (List ℕ × ℕ) → List (List ℕ) → Type 0
IsNumbered index names = (name : List ℕ) → number_of index name ≡ place_in names name

-- each file has its place among the locks as of then, and the other places were never locked
pub record AreLocked (files : List KeptFile) (locks : Locks) (now : ℕ) : Type 0 where
  pub long : length files ≤ length locks.files
  pub beyond : (number : ℕ) → length files ≤ number → standing_at locks.files number ≡ unlocked
  pub as_of : AreAsOf now locks
