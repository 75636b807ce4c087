-- When a file's contents were last saved, and their digest.
use Rattle.std.specs.Prelude.{◌≡◌, ◌≤◌, ⊤, ℕ, ◌==◌, max, Bool, true, false, not, ◌&&◌, List, [], ◌∷◌, map, Option, None, Some, option_map, unwrap_or, if◌then◌else◌}
use Rattle.std.specs.List.{AllByRecursion}
use Rattle.std.specs.Str.{bytes_eq}
use Rattle.sha2.specs.Sha256.{sha256}
use Rattle.wopi_model.specs.declared.calls.Act.{Act}
use Rattle.wopi_model.specs.declared.calls.Act.TheVariants as act
use Rattle.wopi_model.specs.declared.calls.Call.{Call}
use Rattle.wopi_model.specs.declared.calls.Ruling.{Ruling}
use Rattle.wopi_model.specs.Begin.{Begin, at_name}
use Rattle.wopi_model.specs.Moment.{IsMoment}
use Rattle.wopi_model.specs.Host.{brings_contents, file_at, found_at}
use Rattle.wopi_model.specs.Shard.{Item, Tick, Step, Entry}
use Rattle.wopi_model.specs.Step.{Decision, Refuse, Conflict, Accept, decision}
use Rattle.host_core.specs.declared.facts.Digest.{Digest}
use Rattle.host_core.specs.declared.facts.Facts.{Facts}
use Rattle.host_core.specs.declared.file.KeptFile.{KeptFile}

-- when the files that a shard begins with were last saved
abbrev pub Dates : Type 0
Dates = List (List ℕ × ℕ)

-- a call of that act was accepted and brought contents
abbrev pub saves_by : Act → Ruling → Bool
saves_by asked ruling = brings_contents asked && ruling.status == 200

-- so it was with the name's
abbrev pub saves : Entry → List ℕ → Bool
saves entry name = bytes_eq entry.call.name name && saves_by entry.call.act entry.ruling

-- the shard's time after the items, from that time on
abbrev pub time_after : ℕ → List Item → ℕ
time_after time [] = time
time_after time (Tick moment ∷ items) = time_after (max time moment) items
time_after time (Step entry ∷ items) = time_after (max time entry.moment) items

-- The moment of the contents under a name: the shard's time at the last entry that saved some, or that moment where there is none. The
-- shard's time is counted from `time` on.
abbrev pub saved_after : ℕ → ℕ → List Item → List ℕ → ℕ
saved_after time saved [] name = saved
saved_after time saved (Tick moment ∷ items) name = saved_after (max time moment) saved items name
saved_after time saved (Step entry ∷ items) name =
    saved_after (max time entry.moment) (if saves entry name then max time entry.moment else saved) items name

-- when the file of a name was last saved
abbrev pub saved_at : Begin → Dates → List Item → List ℕ → ℕ
saved_at begin dates history name = saved_after begin.now (at_name 0 dates name) history name

-- a digest is told where information is asked for
abbrev pub is_info : Act → Bool
is_info act.Info = true
is_info _ = false

-- the digest of contents, where it is wanted
abbrev pub digest_if : Bool → List ℕ → Option Digest
digest_if wanted contents = if wanted then Some (record { bytes = sha256 contents }) else None

-- what is told of a file of those contents, if there is one
abbrev pub facts_of : Bool → ℕ → Option (List ℕ) → Option Facts
facts_of wanted saved contents = option_map (λ held. record { saved = saved; digest = digest_if wanted held }) contents

-- ---- a save that comes too late

abbrev pub is_put : Act → Bool
is_put (act.Put lock contents) = true
is_put _ = false

abbrev pub is_accept : Decision → Bool
is_accept (Refuse status) = false
is_accept (Conflict reason) = false
is_accept Accept = true

-- the shard would accept the call
abbrev pub would_accept : Begin → List Item → Call → ℕ → Bool
would_accept begin history call moment =
    let at = found_at begin history moment in
    is_accept (decision (file_at at call) call at.opened at.now)

-- the call is a Put that would be accepted, and names another moment than that of the last save
abbrev pub late_if : Act → Option ℕ → Bool → ℕ → Bool
late_if asked None accepted saved = false
late_if asked (Some known) accepted saved = is_put asked && (accepted && not (saved == known))

-- The call is a Put that the shard would accept, and the file was last saved at another moment than the one that the caller knows of.
abbrev pub is_late : Begin → Dates → List Item → Call → Option ℕ → ℕ → Bool
is_late begin dates history call known moment =
    late_if call.act known (would_accept begin history call moment) (saved_at begin dates history call.name)

-- the look at the file's lock that is made in its stead
abbrev pub look_for : Call → Call
look_for call = record call { act = act.GetLock }

-- the call that is made
abbrev pub made_for : Bool → Call → Call
made_for late call = if late then look_for call else call

-- ---- what is kept

abbrev pub dates_of : List KeptFile → Dates
dates_of files = map (λ file. (file.name, file.saved)) files

abbrev pub date_in : List KeptFile → List ℕ → ℕ
date_in files name = at_name 0 (dates_of files) name

-- a digest that is there is that of the contents
abbrev pub IsDigestOf : Option (List ℕ) → Option Digest → Type 0
IsDigestOf contents None = ⊤
IsDigestOf contents (Some digest) = digest.bytes ≡ sha256 (unwrap_or contents [])

abbrev pub IsDigested : KeptFile → Type 0
IsDigested file = IsDigestOf file.contents file.digest

abbrev pub AreDigested : List KeptFile → Type 0
AreDigested files = AllByRecursion IsDigested files

-- files without their digests
abbrev pub bare_file : KeptFile → KeptFile
bare_file file = record file { digest = None }

abbrev pub undigested : List KeptFile → List KeptFile
undigested files = map bare_file files

-- what a call leaves of one file
pub record Marks (before after : KeptFile) (asked : Act) (ruling : Ruling) (now : ℕ) : Type 0 where
  pub saved : after.saved ≡ (if saves_by asked ruling then now else before.saved)
  pub digest : IsDigested before → IsDigested after

-- and of all
pub record MarksAll (before after : List KeptFile) (call : Call) (ruling : Ruling) (now : ℕ) : Type 0 where
  pub dates : (name : List ℕ) → date_in after name ≡ (if bytes_eq call.name name && saves_by call.act ruling then now else date_in before name)
  pub digests : AreDigested before → AreDigested after

-- what is kept is as the shard began and as its entries leave it
pub record IsDated (files : List KeptFile) (dates : Dates) (begin : Begin) (items : List Item) (time : ℕ) : Type 0 where
  pub saved : (name : List ℕ) → date_in files name ≡ saved_at begin dates items name
  pub moments : (name : List ℕ) → IsMoment (date_in files name)
  pub digests : AreDigested files
  pub passed : time_after begin.now items ≤ time
