-- A shard of a host, as it lies under its lock. (Own.)
use Rattle.std.specs.Prelude.{◌≡◌, ⊤, ℕ, ◌≤◌, Bool, true, false, [], ◌∷◌, ◌++◌, length, Option, None, Some}
use Rattle.outside.specs.Folder.{Files, Keeps}
use Rattle.wopi_model.specs.declared.calls.Call.{Call}
use Rattle.wopi_model.specs.Begin.{new_life}
use Rattle.wopi_model.specs.Host.{FullFrom}
use Rattle.host_core.specs.declared.caller.Receipt.{Receipt}
use Rattle.host_core.specs.declared.caller.CallFault.{CallFault}
use Rattle.host_core.specs.declared.caller.EditorReceipt.{EditorReceipt}
use Rattle.host_core.specs.Caller.{entry_of, called_back, IsFullCall, next_stamp, IsLostCall}
use Rattle.host_core.specs.Entries.{back_of}
use Rattle.host_core.specs.Facts.{made_for}
use Rattle.host_core.specs.LockActs.{is_lock_act}
use Rattle.host_core.specs.Notes.{Notes, LogStart}
use Rattle.host_core.specs.Value.{Book, InMemory, Left, IsLawful}
use Rattle.host_core.specs.Times.{untimed}
use Rattle.host_table.specs.Editors.{TellsEditor}
use Rattle.host_table.specs.Histories.{AreNamed}

-- no more entries than the store takes, where it bounds them
abbrev pub IsWithinCalls : Option ℕ → ℕ → Type 0
IsWithinCalls None made = ⊤
IsWithinCalls (Some calls) made = made ≤ calls

-- What each of a host's shards keeps: nobody set its time apart from an entry. Before its first entry the folder holds what it held at the start.
-- The log of its store is the one that the store was handed in with.
pub record IsHeld {F : Type 0} (book : Book F) (start now : Option Files) (began count : ℕ) (then_log now_log : Option LogStart) : Type 0 where
  pub unticked : book.ticked ≡ false
  pub named : AreNamed book.only book.made
  pub few : IsWithinCalls book.limits.calls (length book.made)
  pub unchanged : book.made ≡ [] → Keeps start now
  pub counts : began ≤ count
  pub log : now_log ≡ then_log

-- a call that made an entry
pub record Adds {F : Type 0} (old new : Book F) (call : Call) (pass floor moment : ℕ) (receipt : Receipt) : Type 0 where
  pub time : ℕ
  pub made : new.made ≡ old.made ++ record { time = time; step = entry_of pass call moment receipt; told = receipt.told } ∷ []
  pub shard : old.only ≡ Some receipt.shard
  pub place : receipt.place ≡ length old.made
  pub stamp : receipt.stamp ≡ next_stamp old.begin floor (untimed old.made)
  pub room : FullFrom old.limits old.begin (untimed old.made) floor call moment → ⊥
  pub back : receipt.back ≡ back_of call.act receipt.ruling

-- an editor's call that made an entry: its own, or a look at the file's lock where it is a Put that comes too late
pub record AddsForEditor {F : Type 0} (old new : Book F) (call : Call) (known : Option ℕ) (pass floor moment : ℕ) (answer : EditorReceipt) : Type 0 where
  pub late : Bool
  pub adds : Adds old new (made_for late call) pass floor moment answer.receipt
  pub tells : TellsEditor old.begin old.dates (untimed old.made) (untimed new.made) call known moment late answer

-- a call that made none
pub record Declines {F : Type 0} (old new : Book F) (call : Call) (floor moment : ℕ) (refusal : CallFault) : Type 0 where
  pub made : new.made ≡ old.made
  pub full : IsFullCall refusal → FullFrom old.limits old.begin (untimed old.made) floor call moment
  pub handed : called_back refusal ≡ call
  pub light : is_lock_act call.act ≡ true → (IsLostCall refusal → ⊥) → IsFullCall refusal

-- what a shard leaves, and its folder as the last step left it
pub record IsTakenApart {F : Type 0} (files : F → Option Files) (faults : F → ℕ) (book : Book (InMemory F)) (left : Left F) (folder : F) : Type 0 where
  pub left_is : left ≡ record { opening = book.folder.opening; dates = book.dates; made = book.made; start = book.start.folder }
  pub folder_is : folder ≡ book.folder.folder
  pub begin_is : book.begin ≡ new_life book.folder.opening book.begin.opened book.begin.first
  pub held : IsHeld book (files book.start.folder) (files book.folder.folder) (faults book.start.folder) (faults book.folder.folder) book.start.notes.log book.folder.notes.log
  pub lawful : IsLawful book (files book.start.folder) (files book.folder.folder) (faults book.start.folder) (faults book.folder.folder)

-- the store of a shard as the last step left it, and what it noted
pub record IsGiven {F : Type 0} (files : F → Option Files) (faults : F → ℕ) (notes : F → Notes) (book : Book F) (store : F) : Type 0 where
  pub is : store ≡ book.folder
  pub begin : (notes store).begin ≡ book.begin
  pub made : (notes store).made ≡ book.made
  pub ended : (notes store).begun ≡ None
  pub held : IsHeld book (files book.start) (files book.folder) (faults book.start) (faults book.folder) (notes book.start).log (notes book.folder).log
  pub lawful : IsLawful book (files book.start) (files book.folder) (faults book.start) (faults book.folder)
