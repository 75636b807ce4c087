-- The life that a segment restores. (Own.)
use Rattle.std.specs.Prelude.{◌≡◌, ℕ, false, List, map, Option, Some}
use Rattle.outside.specs.Folder.{Files}
use Rattle.wopi_model.specs.Begin.{at_name}
use Rattle.wopi_model.specs.Shard.{Shard}
use Rattle.host_core.specs.declared.life.Life.{Life}
use Rattle.host_core.specs.declared.life.LifeFile.{LifeFile}
use Rattle.host_core.specs.Life.{is_changed}
use Rattle.host_core.specs.Opening.{MayKeep}
use Rattle.journal_segments.specs.Line.{size_in}
use Rattle.journal_segments.specs.Told.{Placed, Told, size_told, unmet}

abbrev pub file_told : LifeFile → List ℕ × Placed
file_told file = (file.name, record { version = file.version; contents = file.contents; lock = file.lock; spent = file.spent.items })

-- what a life tells, as lines tell it
abbrev pub told_in : Life → Told
told_in life = record { opened = life.opened; first = life.first; now = life.now; last = life.last; files = map file_told life.files.items }

-- the sizes that are told are those of the shard's contents
abbrev pub HasSizesOf : Shard → Told → Type 0
HasSizesOf shard told =
    (name : List ℕ) → size_told (at_name (unmet told.first) told.files name).contents ≡ size_in (shard.files name).contents

-- Of the names of that shard, the folder has the contents of each file that no line has changed. Those that were changed may be missing there.
abbrev pub HoldsUnchanged : ℕ → Files → Told → Shard → Type 0
HoldsUnchanged number files told shard =
    (name : List ℕ) → MayKeep (Some number) name → is_changed (at_name (unmet told.first) told.files name).contents ≡ false → files name ≡ (shard.files name).contents
