-- What an answer tells of a ruling, as far as its line shows it. (Own.)
use Rattle.std.specs.Prelude.{◌≡◌, ⊤, ℕ, List, [], ◌∷◌, length, decimal, Some, unwrap_or}
use Rattle.wopi_model.specs.File.{File}
use Rattle.wopi_model.specs.declared.calls.Ruling.{Ruling}
use Rattle.wopi_headers.specs.declared.answer.Answer.{Answer}
use Rattle.wopi_headers.specs.declared.ask.Op.{Op}
use Rattle.wopi_headers.specs.declared.ask.Op.TheVariants as op
use Rattle.host_core.specs.Value.{Book, state_of}
use Rattle.replay_cmd.specs.Words.{version_shown}

-- the file of that name as it stands at the shard's time
abbrev pub file_in : {F : Type 0} → Book F → List ℕ → File
file_in book name = (state_of book.begin book.made book.time).files name

-- the version of a file and how many bytes it has
abbrev pub size_shown : File → List (List ℕ)
size_shown file = version_shown (Some file.version) ∷ decimal (length (unwrap_or file.contents [])) ∷ []

-- what CheckFileInfo tells is told of the file as it stands, and a copy's name is the one that was asked for
abbrev pub TellsAccepted : File → Op → Answer → Ruling → Type 0
TellsAccepted file op.Info a ruling = (ruling.version ≡ Some file.version) × (ruling.size ≡ length (unwrap_or file.contents []))
TellsAccepted file (op.PutRelative target) a ruling = ⊤
TellsAccepted file _ a ruling = (a.version ≡ ruling.version) × (a.body ≡ unwrap_or ruling.contents [])

pub record Tells (file : File) (asked : Op) (a : Answer) (ruling : Ruling) : Type 0 where
  pub status : a.status ≡ ruling.status
  pub lock : a.lock ≡ ruling.lock
  pub reason : a.reason ≡ ruling.reason
  pub accepted : a.status ≡ 200 → TellsAccepted file asked a ruling
