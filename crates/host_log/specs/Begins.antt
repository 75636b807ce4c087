-- What a shard begins with, as it is handed over and as contracts see it.
use Rattle.std.specs.Prelude.{ℕ, List, Option, None, Some, map, option_map}
use Rattle.kept_locks.specs.Locks.{Standing}
use Rattle.wopi_model.specs.Begin.{Begin}
use Rattle.wopi_model.specs.File.{File, opened_with}
use Rattle.host_core.specs.declared.file.KeptFile.{KeptFile}
use Rattle.host_core.specs.Life.{listed_on}
use Rattle.host_core.specs.Notes.{opening_listed}
use Rattle.host_core.specs.Whole.{joined}
use Rattle.host_log.specs.declared.start.Start.{Start}
use Rattle.host_log.specs.declared.origin.Origin.TheInside.{Inside}

-- Files of an opening, each at that version and unlocked. With locks it's files that go on, each with the locks at its place.
abbrev pub files_as : ℕ → List KeptFile → Option (List Standing) → List (List ℕ × File)
files_as first files None = map (λ file. (file.0, opened_with first file.1)) (opening_listed files)
files_as first files (Some locks) = listed_on (joined files locks)

-- what it is handed over as
abbrev pub begin_in : Start → Begin
begin_in start =
    record {
      opened = start.opened;
      first = start.first;
      now = start.time;
      last = start.last;
      files = files_as start.first start.files.now.items (option_map (λ locks. locks.now.items) start.locks);
    }

-- and what is noted of it
abbrev pub begin_at : Inside → Begin
begin_at origin =
    record {
      opened = origin.opened;
      first = origin.first;
      now = origin.time;
      last = origin.last;
      files = files_as origin.first origin.files.value.items (option_map (λ locks. locks.value.items) origin.locks);
    }
