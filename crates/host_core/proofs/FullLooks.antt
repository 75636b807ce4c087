-- When a shard takes no look at a file's lock.
use Rattle.std.proofs.Common.{inl, inr, ℕ, List, Option, None, Some}
use Rattle.wopi_model.specs.declared.calls.Call.{Call}
use Rattle.wopi_model.specs.Begin.{Begin}
use Rattle.wopi_model.specs.Host.{FullFrom, HasNoCall, Limits}
use Rattle.wopi_model.specs.Shard.{Item}
use Rattle.host_core.specs.Facts.{look_for}

no_call : (calls : Option ℕ) (begin : Begin) (history : List Item) (call : Call) (moment : ℕ) → HasNoCall calls begin history (look_for call) moment → HasNoCall calls begin history call moment
no_call None begin history call moment none = none
no_call (Some calls) begin history call moment (inl place) = inl place
no_call (Some calls) begin history call moment (inr (accepted, brings, less)) = absurd (cc brings)

-- it is full for any call then, since a look brings no contents and begins no lock
pub full_look : (limits : Limits) (begin : Begin) (history : List Item) (floor : ℕ) (call : Call) (moment : ℕ) → FullFrom limits begin history floor (look_for call) moment → FullFrom limits begin history floor call moment
full_look limits begin history floor call moment (inl stamp) = inl stamp
full_look limits begin history floor call moment (inr (inl none)) = inr (inl (no_call limits.calls begin history call moment none))
full_look limits begin history floor call moment (inr (inr (inl (accepted, brings, less)))) = absurd (cc brings)
full_look limits begin history floor call moment (inr (inr (inr (accepted, begins, less)))) = absurd (cc begins)
