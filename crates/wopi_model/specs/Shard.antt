-- The files of one shard, and what happens to them.
use Rattle.std.specs.Prelude.{⊤, ◌↔◌, ℕ, ◌<◌, ◌≤◌, max, List, [], ◌∷◌, map, if◌then◌else◌}
use Rattle.std.specs.Str.{bytes_eq}
use Rattle.std.specs.List.{Contains}
use Rattle.std.specs.List.Sorted.{IsStrictlySortedBy}
use Rattle.std.specs.Ordering.{nat_cmp}
use Rattle.std.specs.Cmp.Lexicographic.{slice_cmp}
use Rattle.wopi_model.specs.File.{File, never_met}
use Rattle.wopi_model.specs.Begin.{Begin, at_name, new_life}
use Rattle.wopi_model.specs.Settle.{settled}
use Rattle.wopi_model.specs.declared.calls.Call.{Call}
use Rattle.wopi_model.specs.declared.calls.Ruling.{Ruling}
use Rattle.wopi_model.specs.Step.{IsOutcome, after_step}

-- `files` has a file for each name, also for one that was never met
pub record Shard : Type 0 where
  pub opened : ℕ
  pub first : ℕ  -- the version of the files of the opening
  pub now : ℕ
  pub files : List ℕ → File

-- names and contents, each name once
abbrev pub Opening : Type 0
Opening = List (List ℕ × List ℕ)

-- the files that a shard begins with
abbrev pub begun : Begin → Shard
begun begin =
    record { opened = begin.opened; first = begin.first; now = begin.now; files = λ name. at_name (never_met begin.first) begin.files name }

abbrev pub opening_file : ℕ → Opening → List ℕ → File
opening_file first opening name = at_name (never_met first) (new_life opening 0 first).files name

abbrev pub opened_shard : Opening → ℕ → ℕ → Shard
opened_shard opening opened first = begun (new_life opening opened first)

-- the names that were met, in the order of their bytes
pub record AreNames (shard : Shard) (names : List (List ℕ)) : Type 0 where
  pub ordered : IsStrictlySortedBy (slice_cmp nat_cmp) names
  pub exact : (name : List ℕ) → Contains names name ↔ (shard.first ≤ (shard.files name).version)

pub record Entry : Type 0 where
  pub stamp : ℕ
  pub pass : ℕ
  pub moment : ℕ
  pub call : Call
  pub ruling : Ruling

pub data Item : Type 0 where
  Tick : (moment : ℕ) → Item
  Step : (entry : Entry) → Item

-- time goes on to that moment, unless it is later already
abbrev pub at_moment : Shard → ℕ → Shard
at_moment shard moment =
    let now = max shard.now moment in
    record { opened = shard.opened; first = shard.first; now = now; files = λ name. settled (shard.files name) now }

abbrev pub with_file : Shard → List ℕ → File → Shard
with_file shard name file =
    record shard { files = λ other. if bytes_eq name other then file else shard.files other }

-- the shard after an entry, and what comes of the entry's file: at is the shard at the entry's moment
abbrev pub after_entry : Shard → Entry → Shard
after_entry at entry =
    with_file at entry.call.name (after_step (at.files entry.call.name) entry.call at.opened at.now entry.ruling)

abbrev pub happens : Shard → Item → Shard
happens shard (Tick moment) = at_moment shard moment
happens shard (Step entry) = after_entry (at_moment shard entry.moment) entry

-- the shard after the items, in order
abbrev pub after : Shard → List Item → Shard
after shard [] = shard
after shard (item ∷ items) = after (happens shard item) items

-- the item's ruling is an outcome of the step at its place
abbrev pub IsAllowed : Shard → Item → Type 0
IsAllowed shard (Tick moment) = ⊤
IsAllowed shard (Step entry) =
    let at = at_moment shard entry.moment in
    IsOutcome (at.files entry.call.name) entry.call at.opened at.now entry.ruling

-- P holds of each item at its place, after the items before it
abbrev pub Along : (Shard → Item → Type 0) → Shard → List Item → Type 0
Along P shard [] = ⊤
Along P shard (item ∷ items) = P shard item × Along P (happens shard item) items

abbrev pub entries : List Item → List Entry
entries [] = []
entries (Tick moment ∷ items) = entries items
entries (Step entry ∷ items) = entry ∷ entries items

abbrev pub stamps : List Entry → List ℕ
stamps entries = map (λ entry. entry.stamp) entries

-- each stamp is above the one before, the first above that number
abbrev pub RisesFrom : ℕ → List ℕ → Type 0
RisesFrom low [] = ⊤
RisesFrom low (stamp ∷ rest) = (low < stamp) × RisesFrom stamp rest

-- the last stamp, or that number where there is none
abbrev pub last_from : ℕ → List ℕ → ℕ
last_from low [] = low
last_from low (stamp ∷ rest) = last_from stamp rest

-- a history that one shard may have from there: the stamps rise from the last one before
pub record LegalFrom (begin : Begin) (history : List Item) : Type 0 where
  pub allowed : Along IsAllowed (begun begin) history
  pub stamps : RisesFrom begin.last (stamps (entries history))

-- and one that a shard may have that is opened anew
abbrev pub Legal : Opening → ℕ → ℕ → List Item → Type 0
Legal opening opened first history = LegalFrom (new_life opening opened first) history
