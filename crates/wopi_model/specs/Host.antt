-- Sixteen shards with one history, and when a shard takes no more.
use Rattle.std.specs.Prelude.{◌≡◌, ◌⊎◌, ⊤, ℕ, ◌+◌, ◌-◌, ◌^◌, ◌<◌, ◌≤◌, max, ◌==◌, Bool, true, false, not, List, [], ◌∷◌, Option, None, Some, is_none, length, map, filter, sum_by, if◌then◌else◌}
use Rattle.std.specs.List.{AllByRecursion}
use Rattle.std.specs.Str.{bytes_eq}
use Rattle.wopi_text.specs.FileName.{shard_of}
use Rattle.wopi_model.specs.declared.calls.Act.TheVariants as act
use Rattle.wopi_model.specs.declared.calls.Act.{Act}
use Rattle.wopi_model.specs.declared.calls.Call.{Call}
use Rattle.wopi_model.specs.Step.{Accept, decision}
use Rattle.wopi_model.specs.File.{File, never_met}
use Rattle.wopi_model.specs.Begin.{Begin, at_name, new_life}
use Rattle.wopi_model.specs.Lives.{begin_at, bytes_of, left_of, live_bytes, live_ids}
use Rattle.wopi_model.specs.Shard.{Opening, Item, Step, Entry, Legal, RisesFrom, last_from, entries, stamps, opened_shard, at_moment, after}

abbrev pub shard_of_entry : Entry → ℕ
shard_of_entry entry = shard_of entry.call.name

-- by stamp, and at one stamp by shard
abbrev pub ComesBefore : Entry → Entry → Type 0
ComesBefore first second = (first.stamp < second.stamp) ⊎ ((first.stamp ≡ second.stamp) × (shard_of_entry first < shard_of_entry second))

abbrev pub IsInOrder : List Entry → Type 0
IsInOrder [] = ⊤
IsInOrder (entry ∷ merge) = AllByRecursion (ComesBefore entry) merge × IsInOrder merge

-- the history of one shard, out of all entries
abbrev pub part_of : ℕ → List Entry → List Item
part_of shard merge = map Step (filter (λ entry. shard_of_entry entry == shard) merge)

abbrev pub opening_of : ℕ → Opening → Opening
opening_of shard opening = filter (λ file. shard_of file.0 == shard) opening

-- entries that one host may make: the journal
pub record LegalHost (opening : Opening) (opened first : ℕ) (merge : List Entry) : Type 0 where
  pub ordered : IsInOrder merge
  pub shards : (shard : ℕ) → shard < 16 → Legal (opening_of shard opening) opened first (part_of shard merge)
  pub passes : (pass : ℕ) → RisesFrom 0 (stamps (filter (λ entry. entry.pass == pass) merge))

-- the most bytes of contents that a shard keeps
abbrev pub most_kept : ℕ
most_kept = 268435456

abbrev pub new_bytes : Act → ℕ
new_bytes (act.Put lock contents) = length contents
new_bytes (act.Create overwrite contents) = length contents
new_bytes _ = 0

abbrev pub brings_contents : Act → Bool
brings_contents (act.Put lock contents) = true
brings_contents (act.Create overwrite contents) = true
brings_contents _ = false

-- the bytes of the opening and of all contents that were accepted
abbrev pub kept : Opening → List Item → ℕ
kept opening history =
    sum_by (λ file. length file.1) opening
    + sum_by (λ entry. if entry.ruling.status == 200 then new_bytes entry.call.act else 0) (entries history)

abbrev pub HasNoPlace : ℕ → List Item → Type 0
HasNoPlace capacity history = length (entries history) ≡ capacity

abbrev pub HasNoStamp : ℕ → List Item → Type 0
HasNoStamp floor history = max floor (last_from 0 (stamps (entries history))) ≡ 2 ^ 64 - 1

-- the call would be accepted, and there is no room for its contents
abbrev pub HasNoRoom : Opening → ℕ → ℕ → List Item → Call → ℕ → Type 0
HasNoRoom opening opened first history call moment =
    let at = at_moment (after (opened_shard opening opened first) history) moment in
    (decision (at.files call.name) call opened at.now ≡ Accept) × (brings_contents call.act ≡ true)
    × (most_kept < kept opening history + new_bytes call.act)

-- a shard over a store that keeps all takes no such call
abbrev pub FullAt : Opening → ℕ → ℕ → ℕ → List Item → ℕ → Call → ℕ → Type 0
FullAt opening opened first capacity history floor call moment =
    HasNoPlace capacity history ⊎ (HasNoStamp floor history ⊎ HasNoRoom opening opened first history call moment)

-- ---- full by what is live

-- How many calls a shard takes, where its store keeps all of them, and how many places there are for held locks and for ids that are refused.
pub record Limits : Type 0 where
  pub calls : Option ℕ
  pub ids : ℕ

-- Stamps are used up. A store that takes any number of calls ends them earlier, so that versions stay below 2^64: each entry raises one
-- by 1 at most, and there are no more entries than stamps.
abbrev pub HasNoStampFrom : Option ℕ → ℕ → List Item → ℕ → Type 0
HasNoStampFrom None last history floor = 2 ^ 63 - 1 ≤ max floor (last_from last (stamps (entries history)))
HasNoStampFrom (Some calls) last history floor = max floor (last_from last (stamps (entries history))) ≡ 2 ^ 64 - 1

-- the bytes of what the shard began with and of all contents that were accepted
abbrev pub kept_from : Begin → List Item → ℕ
kept_from begin history =
    live_bytes begin.files
    + sum_by (λ entry. if entry.ruling.status == 200 then new_bytes entry.call.act else 0) (entries history)

-- the shard as the call would find it, and the call's file
abbrev pub found_at : Begin → List Item → ℕ → Begin
found_at begin history moment = begin_at (left_of begin history) moment

abbrev pub file_at : Begin → Call → File
file_at at call = at_name (never_met at.first) at.files call.name

-- the store keeps all, and has no place for a call more or for its contents
abbrev pub HasNoCall : Option ℕ → Begin → List Item → Call → ℕ → Type 0
HasNoCall None begin history call moment = ⊥
HasNoCall (Some calls) begin history call moment =
    let at = found_at begin history moment in
    HasNoPlace calls history
    ⊎ ((decision (file_at at call) call at.opened at.now ≡ Accept) × (brings_contents call.act ≡ true)
    × (most_kept < kept_from begin history + new_bytes call.act))

-- the call would be accepted, and with what it brings in place of what it replaces the files would have too many bytes
abbrev pub HasNoBytes : Begin → List Item → Call → ℕ → Type 0
HasNoBytes begin history call moment =
    let at = found_at begin history moment in
    (decision (file_at at call) call at.opened at.now ≡ Accept) × (brings_contents call.act ≡ true)
    × (most_kept + bytes_of (file_at at call).contents < live_bytes at.files + new_bytes call.act)

-- acts that take a place more where they are accepted: a lock begins on a file that has none, or beside an id that it spends
abbrev pub begins_lock : File → Act → Bool
begins_lock file (act.Lock id) = is_none file.lock
begins_lock file (act.Relock old id) = not (bytes_eq old id)
begins_lock file _ = false

-- the call would be accepted and begin a lock, and all places are taken at that moment
abbrev pub HasNoId : ℕ → Begin → List Item → Call → ℕ → Type 0
HasNoId ids begin history call moment =
    let at = found_at begin history moment in
    (decision (file_at at call) call at.opened at.now ≡ Accept) × (begins_lock (file_at at call) call.act ≡ true) × (ids ≤ live_ids at.files)

-- the shard takes no such call
abbrev pub FullFrom : Limits → Begin → List Item → ℕ → Call → ℕ → Type 0
FullFrom limits begin history floor call moment =
    HasNoStampFrom limits.calls begin.last history floor
    ⊎ (HasNoCall limits.calls begin history call moment
    ⊎ (HasNoBytes begin history call moment
    ⊎ HasNoId limits.ids begin history call moment))

-- those of a shard over a store that keeps so many calls
abbrev pub kept_limits : ℕ → Limits
kept_limits calls = record { calls = Some calls; ids = calls }
