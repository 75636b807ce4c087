-- A folder beside a log as the definitions see it.
use Rattle.std.specs.Prelude.{◌≡◌, ◌≤◌, ◌<◌, ◌^◌, ◌||◌, ⊤, Bool, true, false, ℕ, List, [], ◌∷◌, ◌++◌, length, Option, None, Some, is_some, option_map}
use Rattle.std.specs.List.{AllByRecursion}
use Rattle.wopi_model.specs.Act.{is_stored}
use Rattle.wopi_model.specs.Shard.{Entry}
use Rattle.host_core.specs.Entries.{Asked, Made, accepted_contents, asked_in, ruled, told_of}
use Rattle.outside.specs.Faults.{Rose}
use Rattle.outside.specs.Log.{IsFront}
use Rattle.host_core.specs.Notes.{Notes, Brought, LogStart, accepted, told_version}
use Rattle.host_core.specs.Times.{steps_of}
use Rattle.host_log.specs.declared.logged.Logged.TheInside.{Inside}
use Rattle.host_log.specs.declared.logged.Saved.{Saved}
use Rattle.host_log.specs.Lines.{IsOf, LinesView}
use Rattle.host_log.specs.Rows.{IsInDoubt, IsLog, head_of}

-- The shard's number, the folder, what was noted, and what was told to the log. It's lost where the log is, or where no more entries are counted. `missing` is the
-- entry that was ended as the log was lost, and `refused` is how often a call failed for that.
pub record LogView (F : Type 0) : Type 0 where
  pub shard : ℕ
  pub folder : F
  pub notes : Notes
  pub lines : LinesView
  pub lost : Bool
  pub missing : List Made
  pub refused : ℕ

abbrev pub brought_as : Saved → Brought
brought_as saved = (Some saved.version, saved.contents.value)

-- the log of the shard of that number, as it was taken into use
abbrev pub started : ℕ → LinesView → LogStart
started shard v = record { shard = shard; syncs_all = v.all; held = v.start; faults = v.began }

abbrev pub view_of : {F L : Type 0} → Inside F L → LogView F
view_of l = record {
  shard = l.shard;
  folder = l.folder;
  notes = record {
    begin = l.origin;
    made = l.lines.told ++ l.missing;
    begun = l.begun;
    saved = option_map brought_as l.saved;
    most = None;
    log = Some (started l.shard l.lines);
  };
  lines = l.lines;
  lost = l.lines.lost || l.spent;
  missing = l.missing;
  refused = l.refused;
}

-- for that shard, over that folder, with nothing noted and nothing told to the log
pub record IsAnew {F : Type 0} (shard : ℕ) (folder : F) (v : LogView F) : Type 0 where
  pub shard_is : v.shard ≡ shard
  pub folder_is : v.folder ≡ folder
  pub log : v.notes.log ≡ Some (started v.shard v.lines)
  pub made : v.notes.made ≡ []
  pub begun : v.notes.begun ≡ None
  pub head : v.lines.head ≡ []
  pub told : v.lines.told ≡ []
  pub missing : v.missing ≡ []
  pub fine : v.lines.lost ≡ false
  pub lost : v.lost ≡ false
  pub refused : v.refused ≡ 0

-- the line that stands is that of the call that was begun, as accepted
abbrev pub MayStand : Option Asked → Option Brought → Option Made → Type 0
MayStand begun saved standing =
    is_some standing ≡ true → (one : Asked) × (begun ≡ Some one) × (is_stored one.call.act ≡ true) × (standing ≡ Some (ruled (accepted (told_version saved)) one))

-- The entry in doubt is of the call that is begun, or of the one that is missing. Where there is neither, the call was given up.
abbrev pub IsDoubt : Option Asked → List Made → Option Made → Type 0
IsDoubt (Some one) missing doubt = (missing ≡ []) × IsOf one doubt
IsDoubt None (last ∷ more) doubt = (more ≡ []) × IsOf (asked_in last) doubt
IsDoubt None [] doubt = ⊤

-- Those that may be told are the first of those that were told. They are all of them, as long as more entries are counted.
pub record AreToldFirst (count : ℕ) (told missing : List Made) : Type 0 where
  pub all : count < 2 ^ 62 → told_of told ≡ steps_of told
  pub rest : List Entry
  pub first : steps_of told ≡ told_of told ++ rest
  pub none : told_of missing ≡ []

-- none of these is a save that was accepted
abbrev pub AreUnsaved : List Made → Type 0
AreUnsaved made = AllByRecursion (λ one. accepted_contents one ≡ None) made

-- Unless the log is lost each entry was told, and the line of what was saved stands. What was appended first is what the shard began with.
pub record IsLogged {F L : Type 0} (l : Inside F L) : Type 0 where
  pub told : l.lines.lost ≡ false → l.missing ≡ []
  pub doubt_is : l.lines.lost ≡ true → IsDoubt l.begun l.missing l.lines.doubt
  pub ahead : MayStand l.begun (option_map brought_as l.saved) l.lines.standing
  pub stands : l.lines.lost ≡ false → is_some l.saved ≡ true → is_some l.lines.standing ≡ true
  pub safe : is_some l.saved ≡ true → l.lines.lost ≡ false
  pub unsaved : AreUnsaved l.missing
  pub refusals : l.lines.lost ≡ false → l.refused ≡ 0
  pub number : l.count ≡ length (l.lines.told ++ l.missing)
  pub few : l.count ≤ 2 ^ 62
  pub spare : l.spent ≡ false → l.count < 2 ^ 62
  pub full : l.spent ≡ true → l.count ≡ 2 ^ 62
  pub head_is : l.lines.head ≡ head_of l.shard l.origin
  pub room : is_some l.begun ≡ true → l.count < 2 ^ 62
  pub may : AreToldFirst l.count l.lines.told l.missing

-- What a log holds at the end, has synced, and how often a call of it has failed; and the folder. What was appended is what the shard began with, then
-- the lines of the entries that were told, and behind these nothing, or, once it was lost, a front of one line more. The entries that may be
-- told are the first of those.
pub record HasEnded {F : Type 0} (v : LogView F) (folder : F) (held synced : Option (List ℕ)) (faults : ℕ) : Type 0 where
  pub folder_is : folder ≡ v.folder
  pub faults_are : faults ≡ v.lines.faults
  pub log : v.notes.log ≡ Some (started v.shard v.lines)
  pub head_is : v.lines.head ≡ head_of v.shard v.notes.begin
  pub made : v.notes.made ≡ v.lines.told ++ v.missing
  pub rest : List Entry
  pub kept : steps_of v.lines.told ≡ told_of v.notes.made ++ rest
  pub fine : v.lost ≡ false → v.lines.lost ≡ false
  pub whole : v.lines.lost ≡ false → v.missing ≡ []
  pub unsaved : AreUnsaved v.missing
  pub refusals : v.lines.lost ≡ false → v.refused ≡ 0
  pub front : IsFront v.lines.start held
  pub told : v.lines.lost ≡ false → v.notes.begun ≡ None → IsLog v.lines.all v.lines.start held synced v.lines.head v.notes.made []
  pub full : v.lost ≡ true → v.lines.lost ≡ false → length v.notes.made ≡ 2 ^ 62
  pub lost : v.lines.lost ≡ true → (tail : List ℕ) × IsInDoubt v.lines.head v.lines.told v.lines.doubt tail × IsLog v.lines.all v.lines.start held synced v.lines.head v.lines.told tail
  pub doubt : v.lines.lost ≡ true → IsDoubt v.notes.begun v.missing v.lines.doubt
  pub rose : v.lines.lost ≡ true → Rose v.lines.began v.lines.faults
  pub counts : v.lines.began ≤ v.lines.faults
