-- PutRelativeFile: what it is answered, and what is done for it. (MS-WOPI, PutRelativeFile; that a suggestion gets 100 tries at most, and which names, is own.)
use Rattle.std.specs.Prelude.{ℕ, ◌≡◌, ◌≢◌, ◌<◌, ◌+◌, ◌⊎◌, ⊤, Bool, false, List, [], ◌∷◌, ◌++◌, length, map, None, Some, ◌==◌, if◌then◌else◌}
use Rattle.std.specs.Str.{IsUtf8}
use Rattle.wopi_text.specs.FileName.{IsFileName}
use Rattle.wopi_text.specs.declared.reason.Reason.TheVariants.{Taken}
use Rattle.wopi_model.specs.declared.token.Token.{Token}
use Rattle.wopi_model.specs.declared.calls.Act.TheVariants as act
use Rattle.wopi_model.specs.declared.calls.Call.{Call}
use Rattle.wopi_model.specs.declared.calls.Ruling.{Ruling}
use Rattle.wopi_model.specs.Shard.{Entry}
use Rattle.wopi_headers.specs.declared.answer.Answer.{Answer}
use Rattle.wopi_headers.specs.declared.answer.BodyKind.TheVariants.{Json}
use Rattle.wopi_headers.specs.declared.ask.Target.{Target}
use Rattle.wopi_headers.specs.declared.ask.Target.TheVariants.{Suggested, Relative}
use Rattle.access_tokens.specs.Addresses.{address_with}
use Rattle.file_info.specs.Relative.{relative_text}
use Rattle.put_relative.specs.CopyNames.{IsTidy, copy_name, tidied}
use Rattle.wopi_acts.specs.Answers.{status_only, ruling_told}
use Rattle.host_core.specs.Caller.{Sight}
use Rattle.host_server.specs.declared.desk.Desk.{Desk}
use Rattle.host_server.specs.declared.copying.Copying.{Copying}
use Rattle.host_server.specs.Deeds.{Deed, Made, Blocked, IsFull, IsOf}
use Rattle.host_server.specs.Telling.{journal_full}

-- the name that a target asks for
abbrev pub asked_name : List ℕ → Target → List ℕ
asked_name source (Relative name overwrite) = name
asked_name source (Suggested text) = tidied source text

-- A file can have that name: a relative one as it stands, a suggestion once it is tidied.
abbrev pub CanBeHad : List ℕ → Target → Type 0
CanBeHad source (Relative name overwrite) = IsFileName name
CanBeHad source (Suggested text) = IsUtf8 text × IsTidy (tidied source text)

-- how many names are tried: the asked one, and for a suggestion its copies
abbrev pub tries : Target → ℕ
tries (Relative name overwrite) = 1
tries (Suggested text) = 100

abbrev pub overwrites : Target → Bool
overwrites (Relative name overwrite) = overwrite
overwrites (Suggested text) = false

-- the first call: whether the source is there, and the token may write it
abbrev pub look : Copying → Call
look copying = record { name = copying.source; token = copying.token; act = act.Look }

-- the call that makes a file of these contents under the copy of a name with that number
abbrev pub create_as : List ℕ → Token → Bool → List ℕ → ℕ → Call
create_as name token overwrite contents number =
    record { name = copy_name name number; token = token; act = act.Create overwrite contents }

-- the call that makes the file under the name that is tried after so many others
abbrev pub create : Copying → ℕ → Call
create copying = create_as (asked_name copying.source copying.target) copying.token (overwrites copying.target) copying.contents

abbrev pub IsTaken : Ruling → Type 0
IsTaken ruling = (ruling.status ≡ 409) × (ruling.reason ≡ Some Taken)

-- the entries are those of these calls, from this number on, and each found its name taken
abbrev pub AreTaken : (ℕ → Call) → ℕ → ℕ → List Entry → Type 0
AreTaken calls moment number [] = ⊤
AreTaken calls moment number (entry ∷ entries) =
    IsOf (calls number) moment entry × IsTaken entry.ruling × AreTaken calls moment (number + 1) entries

-- The ruling on the call of that number decides: its name isn't taken, or no other is tried.
abbrev pub Decides : ℕ → ℕ → Ruling → Type 0
Decides tries number ruling = (number < tries) × ((¬ IsTaken ruling) ⊎ (number + 1 ≡ tries))

-- a token for the file of that name, in the name of who asked, issued at that moment
abbrev pub token_for : List ℕ → Token → ℕ → Token
token_for name asking moment = record asking { file = name; issued = moment }

-- the address of the file of that name, with a token for it
abbrev pub address : Desk → List ℕ → Token → ℕ → List ℕ
address desk name asking moment = address_with desk.base desk.keys (token_for name asking moment)

-- the answer that tells the ruling on the making of the file of that name: where it was made, its name and its address
abbrev pub file_told : Desk → List ℕ → Token → ℕ → Ruling → Answer
file_told desk name asking moment ruling =
    if ruling.status == 200
    then record (ruling_told ruling) { version = None; kind = Json; body = relative_text name (address desk name asking moment) }
    else ruling_told ruling

-- the answer that tells a deciding entry
abbrev pub decision_told : Desk → Entry → Answer
decision_told desk entry = file_told desk entry.call.name entry.call.token entry.moment entry.ruling

-- What is done once the source was looked at and may be copied, and what is answered.
pub data Tried (desk : Desk) (copying : Copying) (deeds : List Deed) (a : Answer) : Type 0 where
  misnamed : (¬ CanBeHad copying.source copying.target) → deeds ≡ [] → a ≡ status_only 400 → Tried desk copying deeds a
  decided : (taken : List Entry) (last : Entry) → CanBeHad copying.source copying.target → AreTaken (create copying) copying.moment 0 taken
      → IsOf (create copying (length taken)) copying.moment last → Decides (tries copying.target) (length taken) last.ruling
      → deeds ≡ map Made (taken ++ last ∷ []) → a ≡ decision_told desk last → Tried desk copying deeds a
  full : (taken : List Entry) (before after : Sight) → CanBeHad copying.source copying.target → AreTaken (create copying) copying.moment 0 taken
      → length taken < tries copying.target → IsFull (create copying (length taken)) copying.moment before after
      → deeds ≡ map Made taken ++ Blocked (create copying (length taken)) copying.moment before after ∷ [] → a ≡ journal_full → Tried desk copying deeds a

-- What is done for a PutRelativeFile, and what it is answered.
pub data Copied (desk : Desk) (copying : Copying) (deeds : List Deed) (a : Answer) : Type 0 where
  refused : (looked : Entry) → IsOf (look copying) copying.moment looked → looked.ruling.status ≢ 200
      → deeds ≡ Made looked ∷ [] → a ≡ ruling_told looked.ruling → Copied desk copying deeds a
  full : (before after : Sight) → IsFull (look copying) copying.moment before after
      → deeds ≡ Blocked (look copying) copying.moment before after ∷ [] → a ≡ journal_full → Copied desk copying deeds a
  allowed : (looked : Entry) (others : List Deed) → IsOf (look copying) copying.moment looked → looked.ruling.status ≡ 200
      → Tried desk copying others a → deeds ≡ Made looked ∷ others → Copied desk copying deeds a
