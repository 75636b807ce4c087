-- A call in one shard, as its seat sees it. (Own.)
use Rattle.std.specs.Prelude.{◌≡◌, ℕ, Bool, true, List, [], ◌∷◌, ◌++◌, length, Option, Some}
use mathlib.Core.List.{IsPrefix}
use Rattle.wopi_model.specs.declared.calls.Call.{Call}
use Rattle.wopi_model.specs.Host.{FullFrom}
use Rattle.host_core.specs.declared.caller.Receipt.{Receipt}
use Rattle.host_core.specs.declared.caller.CallFault.{CallFault}
use Rattle.host_core.specs.declared.caller.EditorReceipt.{EditorReceipt}
use Rattle.host_core.specs.Caller.{entry_of, called_back, IsFullCall, next_stamp, IsLostCall, Sight}
use Rattle.host_core.specs.Entries.{Made, back_of}
use Rattle.host_core.specs.Facts.{made_for}
use Rattle.host_core.specs.LockActs.{is_lock_act}
use Rattle.host_core.specs.Value.{Book}
use Rattle.host_core.specs.Times.{untimed}
use Rattle.host_table.specs.Editors.{TellsEditor}
use Rattle.host_table.specs.Passes.{Place, begin_seen}
use Rattle.host_core.specs.Notes.{Notes}

-- The history so far was seen, which begins with what had been seen, and no entry was made.
pub record Glances {F : Type 0} (v w : Place F) : Type 0 where
  pub base : Book F
  pub based : v.base ≡ Some base
  pub later : IsPrefix v.seen w.seen
  pub same : w ≡ record { lock = v.lock; seen = w.seen; own = v.own; weight = v.weight; base = v.base; taken = v.taken }

-- The notes are those of the shard that a seat has seen: what it began with, and the history.
pub record AreSeenAt {F : Type 0} (notes : Notes) (w : Place F) : Type 0 where
  pub begin : notes.begin ≡ begin_seen w.base
  pub made : notes.made ≡ w.seen

-- The notes are those of the shard of that number, as a caller has seen it.
pub record AreNotesOf (sight : Sight) (shard : ℕ) (notes : Notes) : Type 0 where
  pub begin : notes.begin ≡ sight.begins shard
  pub made : untimed notes.made ≡ sight.seen shard

module _ {F : Type 0} (v : Place F) (call : Call) where
  -- the call's entry was added to the history so far, which begins with what had been seen
  pub record Calls (pass floor moment : ℕ) (receipt : Receipt) (w : Place F) : Type 0 where
    pub base : Book F
    pub based : v.base ≡ Some base
    pub between : List Made
    pub time : ℕ
    pub seen : w.seen ≡ (v.seen ++ between) ++ record { time = time; step = entry_of pass call moment receipt; told = receipt.told } ∷ []
    pub shard : base.only ≡ Some receipt.shard
    pub place : receipt.place ≡ length (v.seen ++ between)
    pub stamp : receipt.stamp ≡ next_stamp base.begin floor (untimed (v.seen ++ between))
    pub room : FullFrom base.limits base.begin (untimed (v.seen ++ between)) floor call moment → ⊥
    pub back : receipt.back ≡ back_of call.act receipt.ruling
    pub same : w ≡ record { lock = v.lock; seen = w.seen; own = v.own ++ receipt.place ∷ []; weight = v.weight; base = v.base; taken = v.taken }

  -- the call found the shard full or its store lost, or there was no memory: the history so far was seen
  pub record Looks (floor moment : ℕ) (refusal : CallFault) (w : Place F) : Type 0 where
    pub glances : Glances v w
    pub full : IsFullCall refusal → FullFrom glances.base.limits glances.base.begin (untimed w.seen) floor call moment
    pub handed : called_back refusal ≡ call
    pub light : is_lock_act call.act ≡ true → (IsLostCall refusal → ⊥) → IsFullCall refusal

-- an editor's call made an entry: its own, or a look at the file's lock where it is a Put that comes too late
pub record CallsForEditor {F : Type 0} (v : Place F) (call : Call) (known : Option ℕ) (pass floor moment : ℕ) (answer : EditorReceipt) (w : Place F) : Type 0 where
  pub late : Bool
  pub calls : Calls v (made_for late call) pass floor moment answer.receipt w
  pub tells : TellsEditor calls.base.begin calls.base.dates (untimed (v.seen ++ calls.between)) (untimed w.seen) call known moment late answer
