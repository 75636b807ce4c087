-- What a part of a life leaves, as a beginning of what comes next.
use Rattle.std.specs.Prelude.{◌≡◌, ◌≤◌, ℕ, ◌+◌, max, List, [], ◌∷◌, Option, None, Some, length, map, sum_by}
use Rattle.wopi_model.specs.declared.locks.Lock.{Lock}
use Rattle.wopi_model.specs.File.{File, never_met}
use Rattle.wopi_model.specs.Settle.{settled}
use Rattle.wopi_model.specs.Step.{after_step}
use Rattle.wopi_model.specs.Begin.{Begin, at_name, put_name}
use Rattle.wopi_model.specs.Shard.{Shard, Item, Tick, Step, Entry, last_from, after, begun, entries, stamps}

-- after the history a shard stands as the other begins: its files name by name, its time and its last stamp
pub record IsLeftBy (begin : Begin) (history : List Item) (next : Begin) : Type 0 where
  pub shard : begun next ≡ after (begun begin) history
  pub last : next.last ≡ last_from begin.last (stamps (entries history))

-- time goes on to that moment, unless it is later already
abbrev pub begin_at : Begin → ℕ → Begin
begin_at begin moment =
    let now = max begin.now moment in
    record {
      opened = begin.opened;
      first = begin.first;
      now = now;
      last = begin.last;
      files = map (λ one. (one.0, settled one.1 now)) begin.files;
    }

abbrev pub begin_after : Begin → Entry → Begin
begin_after at entry =
    let name = entry.call.name in
    record {
      opened = at.opened;
      first = at.first;
      now = at.now;
      last = entry.stamp;
      files = put_name name (after_step (at_name (never_met at.first) at.files name) entry.call at.opened at.now entry.ruling) at.files;
    }

abbrev pub begin_happens : Begin → Item → Begin
begin_happens begin (Tick moment) = begin_at begin moment
begin_happens begin (Step entry) = begin_after (begin_at begin entry.moment) entry

-- what a history leaves
abbrev pub left_of : Begin → List Item → Begin
left_of begin [] = begin
left_of begin (item ∷ items) = left_of (begin_happens begin item) items

-- ---- what is live

-- the bytes of a file's contents
abbrev pub bytes_of : Option (List ℕ) → ℕ
bytes_of None = 0
bytes_of (Some contents) = length contents

abbrev pub live_bytes : List (List ℕ × File) → ℕ
live_bytes files = sum_by (λ one. bytes_of one.1.contents) files

-- the places that a file takes: one for its lock, and one for each spent id
abbrev pub lock_places : Option Lock → ℕ
lock_places None = 0
lock_places (Some lock) = 1

abbrev pub ids_of : File → ℕ
ids_of file = lock_places file.lock + length file.spent

abbrev pub live_ids : List (List ℕ × File) → ℕ
live_ids files = sum_by (λ one. ids_of one.1) files
