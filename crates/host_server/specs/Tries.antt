-- What the calls of a PutRelativeFile do, one by one.
use Rattle.std.specs.Prelude.{◌≡◌, ◌<◌, ℕ, List, [], ◌∷◌, ◌++◌, length, map, Option, None, Some}
use Rattle.wopi_headers.specs.declared.ask.Target.{Target}
use Rattle.wopi_model.specs.declared.calls.Call.{Call}
use Rattle.wopi_model.specs.declared.calls.Ruling.{Ruling}
use Rattle.wopi_model.specs.Shard.{Entry}
use Rattle.host_core.specs.Caller.{Sight}
use Rattle.host_server.specs.declared.creating.Attempt.{Attempt}
use Rattle.host_server.specs.declared.creating.Attempt.TheVariants as attempt
use Rattle.host_server.specs.declared.creating.Outcome.{Outcome}
use Rattle.host_server.specs.declared.creating.Outcome.TheVariants as outcome
use Rattle.host_server.specs.Deeds.{Made, Blocked, IsFull, IsOf, Does}
use Rattle.host_server.specs.Copies.{CanBeHad, asked_name, IsTaken, AreTaken, Decides}

-- the name that a target asks for, or none where no file can have it
abbrev pub IsAsked : List ℕ → Target → Option (List ℕ) → Type 0
IsAsked source target (Some name) = CanBeHad source target × (name ≡ asked_name source target)
IsAsked source target None = ¬ CanBeHad source target

-- what a ruling makes of an attempt, with the contents where they came back
abbrev pub Judges : Ruling → Option (List ℕ) → Attempt → Type 0
Judges ruling back (attempt.Taken told contents) = (told ≡ ruling) × IsTaken ruling × (back ≡ Some contents)
Judges ruling back (attempt.Ruled told) = (told ≡ ruling) × (IsTaken ruling → back ≡ None)
Judges ruling back attempt.Full = ⊥
Judges ruling back attempt.Memory = ⊥

-- what became of a Create of these contents, and what was done
abbrev pub Attempts : (Sight → Type 0) → Sight → Sight → Call → List ℕ → ℕ → Attempt → Type 0
Attempts always old new call contents moment (attempt.Taken ruling back) =
    (entry : Entry) × IsOf call moment entry × (entry.ruling ≡ ruling) × IsTaken ruling × (back ≡ contents) × Does always old new (Made entry ∷ [])
Attempts always old new call contents moment (attempt.Ruled ruling) =
    (entry : Entry) × IsOf call moment entry × (entry.ruling ≡ ruling) × (¬ IsTaken ruling) × Does always old new (Made entry ∷ [])
Attempts always old new call contents moment attempt.Full = IsFull call moment old new × Does always old new (Blocked call moment old new ∷ [])
Attempts always old new call contents moment attempt.Memory = Does always old new []

-- The names of these numbers were tried so far, and each was taken.
pub record Going (always : Sight → Type 0) (old new : Sight) (calls : ℕ → Call) (moment number : ℕ) : Type 0 where
  pub taken : List Entry
  pub count : length taken ≡ number
  pub all : AreTaken calls moment 0 taken
  pub does : Does always old new (map Made taken)

-- the call of that number came behind those whose names were taken, and decided
pub record Decided (always : Sight → Type 0) (old new : Sight) (calls : ℕ → Call) (moment tries : ℕ) (name : List ℕ) (ruling : Ruling) : Type 0 where
  pub taken : List Entry
  pub last : Entry
  pub all : AreTaken calls moment 0 taken
  pub is_last : IsOf (calls (length taken)) moment last
  pub decides : Decides tries (length taken) last.ruling
  pub name_is : name ≡ last.call.name
  pub ruling_is : ruling ≡ last.ruling
  pub does : Does always old new (map Made (taken ++ last ∷ []))

-- it found its shard full
pub record Stopped (always : Sight → Type 0) (old new : Sight) (calls : ℕ → Call) (moment tries : ℕ) : Type 0 where
  pub taken : List Entry
  pub before : Sight
  pub after : Sight
  pub all : AreTaken calls moment 0 taken
  pub few : length taken < tries
  pub full : IsFull (calls (length taken)) moment before after
  pub does : Does always old new (map Made taken ++ Blocked (calls (length taken)) moment before after ∷ [])

-- what became of so many Creates at most
abbrev pub Creates : (Sight → Type 0) → Sight → Sight → (ℕ → Call) → ℕ → ℕ → Outcome → Type 0
Creates always old new calls moment tries (outcome.Ruled name ruling) = Decided always old new calls moment tries name ruling
Creates always old new calls moment tries outcome.Full = Stopped always old new calls moment tries
Creates always old new calls moment tries outcome.Memory =
    (number : ℕ) × (number < tries) × Going always old new calls moment number
