-- A shard as the definitions see it.
use Rattle.std.specs.Prelude.{List, map, Some, option_map, None}
use Rattle.wopi_model.specs.Begin.{new_life}
use Rattle.wopi_model.specs.Host.{Limits}
use Rattle.wopi_model.specs.Shard.{Opening}
use Rattle.host_core.specs.declared.ledger.Ledger.{Ledger}
use Rattle.host_core.specs.declared.shard.Shard.TheInside.{Inside}
use Rattle.host_core.specs.declared.past.Past.TheInside as past
use Rattle.host_core.specs.declared.kept.Kept.TheInside as store
use Rattle.host_core.specs.declared.kept.OpeningFile.{OpeningFile}
use Rattle.host_core.specs.Notes.{Notes}
use Rattle.host_core.specs.Facts.{dates_of}
use Rattle.host_core.specs.Value.{Book, Left, InMemory}

abbrev pub limits_of : Ledger → Limits
limits_of ledger = record { calls = ledger.calls; ids = ledger.ids }

-- the history is what the store noted
abbrev pub book_of : {F : Type 0} → Notes → Inside F → Book F
book_of notes s = record {
  only = s.only.value;
  begin = notes.begin;
  limits = limits_of s.ledger;
  dates = dates_of s.ledger.opening.value.items;
  made = notes.made;
  time = s.ledger.time;
  ticked = s.ticked.value;
  start = s.start.value;
  folder = s.folder;
}

abbrev pub files_listed : List OpeningFile → Opening
files_listed files = map (λ file. (file.name, file.contents)) files

abbrev pub left_of : {F : Type 0} → past.Inside F → Left F
left_of p = record { opening = files_listed p.opening.items; dates = p.shard.value.dates; made = p.entries.items; start = p.shard.value.start.folder }

abbrev pub kept_of : {F : Type 0} → store.Inside F → InMemory F
kept_of k = record {
  folder = k.folder;
  opening = files_listed k.opening.items;
  notes = record {
    begin = new_life (files_listed k.opening.items) k.opened k.first;
    made = k.entries.made;
    begun = k.entries.begun;
    saved = option_map (λ one. (Some one.version, one.contents)) k.saved;
    most = Some k.entries.most;
    log = None;
  };
  most = k.entries.most;
}
