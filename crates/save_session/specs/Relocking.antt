-- When a relock may be on its way. (Own.)
use Rattle.std.specs.Prelude.{ℕ, Bool, true, false, ◌&&◌, Option, None, Some}
use Rattle.save_session.specs.declared.state.Goal.{Goal}
use Rattle.save_session.specs.declared.state.Goal.TheVariants as goal
use Rattle.save_session.specs.declared.state.SessionOp.{SessionOp}
use Rattle.save_session.specs.declared.state.SessionOp.TheVariants as op
use Rattle.save_session.specs.declared.state.State.{State}
use Rattle.save_session.specs.declared.state.Waiting.{Waiting}
use Rattle.save_session.specs.Session.{has_next}

-- a wish that may want the next id first
abbrev pub wants_next : Goal → Bool
wants_next goal.Save = true
wants_next goal.Refresh = true
wants_next goal.Close = true
wants_next _ = false

-- under a lock id of this number the operation may wait for its answer
abbrev pub may_wait : ℕ → Goal → SessionOp → Bool
may_wait number purpose (op.Relock from) = wants_next purpose && has_next number
may_wait number purpose _ = true

abbrev pub waits_well : ℕ → Option Waiting → Bool
waits_well number None = true
waits_well number (Some waiting) = may_wait number waiting.goal waiting.op

-- A relock waits only for a wish that may want the next id, and where there is a next number.
abbrev pub is_sound : State → Bool
is_sound session = waits_well session.number session.waits
