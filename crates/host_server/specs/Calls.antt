-- What one call does, and what is told of it.
use Rattle.std.specs.Prelude.{◌≡◌, ◌⊎◌, ℕ, Bool, true, false, List, [], ◌∷◌, ◌++◌, Option, Result, Ok, Err}
use Rattle.wopi_text.specs.declared.faults.Memory.{Memory}
use Rattle.wopi_model.specs.declared.calls.Call.{Call}
use Rattle.wopi_model.specs.Shard.{Entry}
use Rattle.wopi_headers.specs.declared.answer.Answer.{Answer}
use Rattle.host_core.specs.Caller.{Sight}
use Rattle.host_core.specs.Entries.{back_of}
use Rattle.host_server.specs.declared.calling.Called.{Called}
use Rattle.host_server.specs.declared.calling.Called.TheVariants.{Ruled, Full, Memory as NoMemory}
use Rattle.host_server.specs.Deeds.{Deed, EditorCall, Made, MadeFor, Blocked, IsFor, IsFull, IsOf, Does}
use Rattle.host_server.specs.declared.knowing.LastSave.{LastSave}
use Rattle.host_server.specs.Known.{moment_known, suite_of}
use Rattle.host_server.specs.Telling.{journal_full, told, told_for}

-- what became of a call, and what was done
abbrev pub Calls : (Sight → Type 0) → Sight → Sight → Call → ℕ → Called → Type 0
Calls always old new call moment (Ruled ruling back) =
    (entry : Entry) × IsOf call moment entry × (entry.ruling ≡ ruling) × (back ≡ back_of call.act ruling) × Does always old new (Made entry ∷ [])
Calls always old new call moment Full = IsFull call moment old new × Does always old new (Blocked call moment old new ∷ [])
Calls always old new call moment NoMemory = Does always old new []

-- An answer tells what became of a call, by whether the host serves editors, in which page, and which save the call knows of.
pub data TellsCall (editor : Bool) (origin : Option (List ℕ)) (last : Option LastSave) (call : Call) (moment : ℕ) (deeds : List Deed) (a : Answer) : Type 0 where
  ruled : (entry : Entry) → editor ≡ false → IsOf call moment entry → deeds ≡ Made entry ∷ [] → a ≡ told entry → TellsCall editor origin last call moment deeds a
  ruled_for : (one : EditorCall) → editor ≡ true → IsFor call (moment_known last) moment one → deeds ≡ MadeFor one ∷ [] → a ≡ told_for origin (suite_of last) one
      → TellsCall editor origin last call moment deeds a
  full : (before after : Sight) → IsFull call moment before after → deeds ≡ Blocked call moment before after ∷ [] → a ≡ journal_full
      → TellsCall editor origin last call moment deeds a

-- where memory ran out, nothing was done, or the first deeds of some answer
abbrev pub IsBegun : (List Deed → Answer → Type 0) → List Deed → Type 0
IsBegun P deeds = (deeds ≡ []) ⊎ ((others : List Deed) × (a : Answer) × P (deeds ++ others) a)

-- what was done and what is answered are in that relation
abbrev pub Tells : (List Deed → Answer → Type 0) → (Sight → Type 0) → Sight → Sight → Result Answer Memory → Type 0
Tells P always old new (Ok a) = (deeds : List Deed) × Does always old new deeds × P deeds a
Tells P always old new (Err fault) = (deeds : List Deed) × Does always old new deeds × IsBegun P deeds
