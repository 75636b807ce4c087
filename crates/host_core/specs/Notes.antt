-- What a store has noted.
use Rattle.std.specs.Prelude.{◌≡◌, ◌==◌, ⊤, Bool, ℕ, ◌<◌, ◌≤◌, true, List, map, unwrap_or, [], Option, None, Some, option_map, if◌then◌else◌}
use Rattle.wopi_model.specs.Begin.{Begin}
use Rattle.wopi_model.specs.Shard.{Opening}
use Rattle.wopi_model.specs.declared.calls.Act.TheVariants as act
use Rattle.wopi_model.specs.declared.calls.Call.{Call}
use Rattle.wopi_model.specs.declared.calls.Ruling.{Ruling}
use Rattle.wopi_model.specs.Act.{is_stored}
use Rattle.wopi_model.specs.Step.{bare}
use Rattle.host_core.specs.declared.file.KeptFile.{KeptFile}
use Rattle.host_core.specs.Entries.{Made, Asked, brought_by}

-- the version that is told of contents, and these
abbrev pub Brought : Type 0
Brought = Option ℕ × List ℕ

-- what an accepted call saves
abbrev pub saved_in : Made → Option Brought
saved_in one = if one.step.ruling.status == 200 then option_map (λ contents. (one.step.ruling.version, contents)) (brought_by one.step.call.act) else None

-- Which shard's log it is, whether it syncs all changes, what it held as it was taken into use, where it tells, and how often a call of it had
-- failed.
pub record LogStart : Type 0 where
  pub shard : ℕ
  pub syncs_all : Bool
  pub held : Option (List ℕ)
  pub faults : ℕ

-- What the shard began with, the entries, and the one that was begun and has no ruling yet. `saved` are the contents that the folder took
-- since the last one was begun, `most` is how many entries there may be, where that is bounded, and `log` is the log that they stand in, where there is one.
pub record Notes : Type 0 where
  pub begin : Begin
  pub made : List Made
  pub begun : Option Asked
  pub saved : Option Brought
  pub most : Option ℕ
  pub log : Option LogStart

-- beside so many entries there may be one more
abbrev pub HasPlace : Option ℕ → ℕ → Type 0
HasPlace None made = ⊤
HasPlace (Some most) made = made < most

-- there may be an entry for each of so many calls, or for any number of them
abbrev pub TakesCalls : Option ℕ → Option ℕ → Type 0
TakesCalls None most = most ≡ None
TakesCalls (Some calls) None = ⊤
TakesCalls (Some calls) (Some most) = calls ≤ most

-- an entry was begun for that call, and nothing was saved since
abbrev pub IsBegunFor : Notes → Call → Type 0
IsBegunFor notes call = (one : Asked) × (notes.begun ≡ Some one) × (notes.saved ≡ None) × (one.call ≡ call)

-- for one of that name, which brings these contents
abbrev pub IsBegunWith : Notes → List ℕ → List ℕ → Type 0
IsBegunWith notes name contents = (one : Asked) × (notes.begun ≡ Some one) × (notes.saved ≡ None) × (one.call.name ≡ name) × (brought_by one.call.act ≡ Some contents)

-- for one that removes the file of that name
abbrev pub IsBegunToRemove : Notes → List ℕ → Type 0
IsBegunToRemove notes name = (one : Asked) × (notes.begun ≡ Some one) × (notes.saved ≡ None) × (one.call.name ≡ name) × (one.call.act ≡ act.Delete)

-- the ruling of a call that the store took part in and that was accepted
abbrev pub accepted : Option ℕ → Ruling
accepted version = record (bare 200) { version = version }

-- the version that is told of what was saved
abbrev pub told_version : Option Brought → Option ℕ
told_version None = None
told_version (Some saved) = saved.0

-- where the call that was begun is one that the store takes part in, it is accepted with that ruling
abbrev pub IsToldAhead : Notes → Ruling → Type 0
IsToldAhead notes ruling = (one : Asked) → notes.begun ≡ Some one → is_stored one.call.act ≡ true → ruling.status ≡ 200 → ruling ≡ accepted (told_version notes.saved)

-- the files of an opening
abbrev pub opening_listed : List KeptFile → Opening
opening_listed files = map (λ file. (file.name, unwrap_or file.contents [])) files

-- nothing was noted meanwhile
pub record StaysNoted (old new : Notes) : Type 0 where
  pub begin : new.begin ≡ old.begin
  pub made : new.made ≡ old.made
  pub begun : new.begun ≡ old.begun
  pub most : new.most ≡ old.most
  pub log : new.log ≡ old.log

-- nor was the rest changed when an entry was noted
pub record KeepsOpen (old new : Notes) : Type 0 where
  pub begin : new.begin ≡ old.begin
  pub most : new.most ≡ old.most
  pub log : new.log ≡ old.log
