-- What is known of a shard of which nobody keeps the contents. (Own.)
use Rattle.std.specs.Prelude.{◌≡◌, ◌≢◌, ◌↔◌, ⊤, ℕ, ◌<◌, ◌≤◌, Bool, false, IsTrue, List, length, Option, None, Some, slice_get}
use Rattle.wopi_model.specs.Moment.{IsMoment}
use Rattle.wopi_model.specs.File.{File}
use Rattle.wopi_model.specs.Settle.{settled}
use Rattle.wopi_model.specs.Step.{after_step}
use Rattle.wopi_model.specs.Shard.{Opening, Shard}
use Rattle.host_core.specs.Opening.{opened_contents}
use Rattle.wopi_model.specs.Kept.{Shows, kept_after}
use Rattle.name_index.specs.Index.{number_of}
use Rattle.journal_text.specs.declared.text.Line.{Line}
use Rattle.journal_text.specs.Lines.{AreSized, told_size}
use Rattle.journal_audit.specs.Calls.{call_of, entry_of, told_ruling}
use Rattle.journal_audit.specs.Lines.{IsRuledOn}
use Rattle.journal_audit.specs.Judging.{Placed}
use Rattle.journal_audit.specs.Known.{IsKnown, opened_as, unmet}
use Rattle.journal_audit.specs.Spent.{Ends, refuses}

-- what every line of a journal keeps, and what a track needs of it
pub record IsSound (line : Line) : Type 0 where
  pub shard : line.shard < 16
  pub now : IsMoment line.now
  pub contents : AreSized (told_size line.act line.status) line.contents

-- names, the files by number, and the ids that are spent on them
pub record Tracked : Type 0 where
  pub opened : ℕ
  pub first : ℕ
  pub now : ℕ
  pub names : List (List ℕ × ℕ)
  pub files : List Placed
  pub spent : Ends

-- Each name's number is its own and has a file, and no id is spent on a number that has none.
pub record AreNumbered (names : List (List ℕ × ℕ)) (files : List Placed) (spent : Ends) : Type 0 where
  pub within : (name : List ℕ) (number : ℕ) → number_of names name ≡ Some number → number < length files
  pub apart : (one other : List ℕ) (number : ℕ) → number_of names one ≡ Some number → number_of names other ≡ Some number → one ≡ other
  pub beyond : (number : ℕ) → length files ≤ number → (id : List ℕ) (now : ℕ) → refuses spent number id now ≡ false

-- ---- one file

-- the file of that number is known, or nothing is known of the name
abbrev pub IsKnownAt : ℕ → List Placed → Ends → Option ℕ → File → ℕ → Type 0
IsKnownAt first files spent None file now = IsKnown (unmet first) (λ id later. false) file now
IsKnownAt first files spent (Some number) file now =
    (place : Placed) × (slice_get files number ≡ Some place) × IsKnown place (refuses spent number) file now

-- what a line leaves of a file
abbrev pub left_by : File → ℕ → Line → File
left_by file opened line = after_step (settled file line.now) (call_of line) opened line.now (told_ruling line)

-- the line's ruling is an outcome of the step on the file, and then it leaves what is known afterwards
abbrev pub Steps : Placed → (List ℕ → ℕ → Bool) → Line → ℕ → Bool → Placed → (List ℕ → ℕ → Bool) → Type 0
Steps old refused line opened ruled new refused' = (file : File) (before : ℕ) → before ≤ line.now → IsKnown old refused file before →
    (IsTrue ruled ↔ IsRuledOn (settled file line.now) line opened line.now) × (IsTrue ruled → IsKnown new refused' (left_by file opened line) line.now)

-- on other files the same ids are refused
abbrev pub OthersStay : Ends → Ends → ℕ → Type 0
OthersStay old new number = (other : ℕ) → other ≢ number → (id : List ℕ) (now : ℕ) → refuses new other id now ≡ refuses old other id now

-- ---- all files

-- these files are known, each of them settled at some moment
abbrev pub AreKnown : ℕ → List (List ℕ × ℕ) → List Placed → Ends → (List ℕ → File) → ℕ → Type 0
AreKnown first names files spent kept now = (name : List ℕ) → IsKnownAt first files spent (number_of names name) (kept name) now

-- the files that a line leaves
abbrev pub all_left_by : (List ℕ → File) → ℕ → Line → List ℕ → File
all_left_by kept opened line = kept_after kept opened line.now (entry_of line (told_ruling line))

-- what a line does to the files that are known
abbrev pub Takes : ℕ → ℕ → Line → List (List ℕ × ℕ) → List Placed → Ends → Bool → List (List ℕ × ℕ) → List Placed → Ends → Type 0
Takes first opened line names files spent ruled names' files' spent' = (kept : List ℕ → File) (before : ℕ) → before ≤ line.now → AreKnown first names files spent kept before →
    (IsTrue ruled ↔ IsRuledOn (settled (kept line.name) line.now) line opened line.now)
    × (IsTrue ruled → AreKnown first names' files' spent' (all_left_by kept opened line) line.now)

-- what is known is what stands in the shard
pub record Knows (track : Tracked) (shard : Shard) : Type 0 where
  pub opened_is : track.opened ≡ shard.opened
  pub first_is : track.first ≡ shard.first
  pub now_is : track.now ≡ shard.now
  pub kept : List ℕ → File
  pub shows : Shows kept shard
  pub known : AreKnown track.first track.names track.files track.spent kept track.now

-- what is known while the opening files come: they are these so far
abbrev pub IsOpenedAt : ℕ → List Placed → Option ℕ → Option (List ℕ) → Type 0
IsOpenedAt first files None None = ⊤
IsOpenedAt first files (Some number) (Some contents) = slice_get files number ≡ Some (opened_as first (length contents))
IsOpenedAt first files _ _ = ⊥

pub record IsOpened (track : Tracked) (opening : Opening) (opened first : ℕ) : Type 0 where
  pub opened_is : track.opened ≡ opened
  pub first_is : track.first ≡ first
  pub now_is : track.now ≡ opened
  pub files_are : (name : List ℕ) → IsOpenedAt first track.files (number_of track.names name) (opened_contents opening name)
  pub unspent : (number : ℕ) (id : List ℕ) (now : ℕ) → refuses track.spent number id now ≡ false
