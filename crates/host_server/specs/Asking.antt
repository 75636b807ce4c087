-- What is told of an operation, by its kind.
use Rattle.std.specs.Prelude.{ℕ, ◌≡◌, Bool, true, false, List, Option, Some, Result}
use Rattle.wopi_text.specs.declared.faults.Memory.{Memory}
use Rattle.wopi_model.specs.declared.token.Token.{Token}
use Rattle.wopi_model.specs.declared.calls.Act.{Act}
use Rattle.wopi_headers.specs.declared.answer.Answer.{Answer}
use Rattle.wopi_headers.specs.declared.ask.Ask.{Ask}
use Rattle.wopi_headers.specs.declared.ask.Op.{Op}
use Rattle.wopi_headers.specs.declared.ask.Op.TheVariants as op
use Rattle.wopi_headers.specs.declared.ask.Target.{Target}
use Rattle.wopi_acts.specs.Acts.{act_of}
use Rattle.host_core.specs.Caller.{Sight}
use Rattle.host_server.specs.declared.desk.Desk.{Desk}
use Rattle.host_server.specs.declared.knowing.LastSave.{LastSave}
use Rattle.host_server.specs.Answering.{call_of, copying_of}
use Rattle.host_server.specs.Calls.{TellsCall, Tells}
use Rattle.host_server.specs.Copies.{Copied}

-- whether an operation is CheckFileInfo
abbrev pub asks_info : Op → Bool
asks_info op.Info = true
asks_info _ = false

-- whether an operation is PutFile
abbrev pub asks_save : Op → Bool
asks_save (op.Put lock) = true
asks_save _ = false

-- whether an operation is PutRelativeFile, which makes a copy beside its file
abbrev pub is_copy : Op → Bool
is_copy (op.PutRelative target) = true
is_copy _ = false

-- the call of the one act that was asked for is told
abbrev pub TellsAct : Bool → Option (List ℕ) → Option LastSave → Ask → Token → List ℕ → ℕ → (Sight → Type 0) → Sight → Sight → Result Answer Memory → Type 0
TellsAct editor origin last ask token body moment always old new result =
    (asked : Act) × (act_of ask.op body ≡ Some asked) × Tells (TellsCall editor origin last (call_of ask token asked) moment) always old new result

-- a PutRelativeFile was asked for, and is told
abbrev pub TellsCopy : Desk → Ask → Token → List ℕ → ℕ → (Sight → Type 0) → Sight → Sight → Result Answer Memory → Type 0
TellsCopy desk ask token body moment always old new result =
    (target : Target) × (ask.op ≡ op.PutRelative target) × Tells (Copied desk (copying_of ask token target body moment)) always old new result
