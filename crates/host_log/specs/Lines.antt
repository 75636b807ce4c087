-- A log that lines are appended to as the definitions see it.
use Rattle.std.specs.Prelude.{◌≡◌, ◌≤◌, ℕ, Bool, true, false, List, [], Option, None, Some, is_some, unwrap_or}
use Rattle.outside.specs.Faults.{Rose}
use Rattle.wopi_model.specs.declared.calls.Ruling.{Ruling}
use Rattle.host_core.specs.Entries.{Asked, Made, ruled}
use Rattle.host_log.specs.declared.lines.Lines.TheInside.{Inside}
use Rattle.host_log.specs.Rows.{IsLog, IsTail}

-- Whether all changes are synced; what the log held at the start, holds now, and has synced, where it tells that; whether nothing was appended yet; the beginning that was
-- appended, if one was; the entries that were told; the one that stands and may yet be taken back; whether a call of the log failed, and at
-- which entry; and how often one had at the start and has now.
pub record LinesView : Type 0 where
  pub all : Bool
  pub start : Option (List ℕ)
  pub held : Option (List ℕ)
  pub synced : Option (List ℕ)
  pub untouched : Bool
  pub head : List ℕ
  pub told : List Made
  pub standing : Option Made
  pub lost : Bool
  pub doubt : Option Made
  pub began : ℕ
  pub faults : ℕ

abbrev pub lines_view : {L : Type 0} → (L → Option (List ℕ)) → (L → Option (List ℕ)) → (L → ℕ) → Inside L → LinesView
lines_view held synced faults l = record {
  all = l.syncs_all;
  start = held l.start.value;
  held = held l.log;
  synced = synced l.log;
  untouched = l.untouched;
  head = unwrap_or l.head [];
  told = l.told;
  standing = l.standing;
  lost = l.lost;
  doubt = l.doubt;
  began = faults l.start.value;
  faults = faults l.log;
}

-- nothing was appended to the log yet, and nothing told to it
pub record IsUntouched (v : LinesView) : Type 0 where
  pub held : v.held ≡ v.start
  pub synced : v.synced ≡ v.start
  pub head : v.head ≡ []
  pub told : v.told ≡ []
  pub standing : v.standing ≡ None
  pub fine : v.lost ≡ false
  pub doubt : v.doubt ≡ None

-- the tail is what may stand behind the entries that were told, and a line that stands is synced
pub record AreLines (v : LinesView) : Type 0 where
  pub tail : List ℕ
  pub tail_is : IsTail v.head v.told v.lost v.standing v.doubt tail
  pub log : IsLog v.all v.start v.held v.synced v.head v.told tail
  pub fresh : v.untouched ≡ true → IsUntouched v
  pub sure : is_some v.standing ≡ true → v.synced ≡ v.held
  pub rose : v.lost ≡ true → Rose v.began v.faults
  pub counts : v.began ≤ v.faults

-- it is an entry of that call
abbrev pub IsOf : Asked → Option Made → Type 0
IsOf one made = (ruling : Ruling) × (made ≡ Some (ruled ruling one))

-- it goes on from the same start and beginning, and is never found again
pub record GoesOn (old new : LinesView) : Type 0 where
  pub all : new.all ≡ old.all
  pub lost : new.lost ≡ false → old.lost ≡ false
  pub start : new.start ≡ old.start
  pub head : new.head ≡ old.head
  pub began : new.began ≡ old.began
  pub never_falls : old.faults ≤ new.faults
