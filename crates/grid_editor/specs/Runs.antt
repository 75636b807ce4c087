-- Commands one after another: what is sent and written, and how it ends. (Own.)
use Rattle.std.specs.Prelude.{ℕ, ◌≡◌, ◌≢◌, List, [], ◌∷◌, ◌++◌, Option, Result, Ok, Err}
use Rattle.std.specs.Io.KnownBytes.{Appends}
use Rattle.outside.specs.declared.dialer.Exchange.{Exchange}
use Rattle.save_session.specs.Views.{nonce_of}
use Rattle.wopi_client.specs.Talk.{Exchanged}
use Rattle.grid_editor.specs.declared.command.Command.{Command}
use Rattle.grid_editor.specs.declared.editor.Editor.{Editor}
use Rattle.grid_editor.specs.declared.turns.EditFault.{EditFault}
use Rattle.grid_editor.specs.declared.turns.EditFault.TheVariants.{BadReply, WriteFault, Memory}
use Rattle.grid_editor.specs.declared.turns.Turn.{Turn}
use Rattle.grid_editor.specs.declared.turns.Went.{Went}
use Rattle.grid_editor.specs.declared.turns.Went.TheVariants.{On}
use Rattle.grid_editor.specs.Turns.{Does}

-- A command was done, and these bytes were written: its line, a front of it where the output failed, and nothing where there is no line.
abbrev pub Commands : Editor → Command → Editor → Result Went EditFault → List ℕ → List Exchange → Type 0
Commands old asked new (Ok went) written exchanges =
    (turn : Turn) × Does old asked new (Ok turn) exchanges × (written ≡ turn.line) × (went ≡ turn.went)
Commands old asked new (Err WriteFault) written exchanges =
    (turn : Turn) × (rest : List ℕ) × Does old asked new (Ok turn) exchanges × (turn.line ≡ written ++ rest)
Commands old asked new (Err why) written exchanges = Does old asked new (Err why) exchanges × (written ≡ [])

-- The editor speaks with the same host of the same file, under the same token and nonce.
pub record StaysAt (old new : Editor) : Type 0 where
  pub desktop : new.desktop ≡ old.desktop
  pub nonce : nonce_of new.session ≡ nonce_of old.session

-- Commands were done in their order by one editor, until one of them ended the script.
pub data Runs : Editor → List Command → Editor → Result Went EditFault → List ℕ → List Exchange → Type 0 where
  over : (editor : Editor) → Runs editor [] editor (Ok On) [] []
  goes_on : (old mid new : Editor) (asked : Command) (later : List Command) (result : Result Went EditFault) (first second : List ℕ) (sent more : List Exchange)
      → Commands old asked mid (Ok On) first sent → StaysAt old mid → Runs mid later new result second more
      → Runs old (asked ∷ later) new result (first ++ second) (sent ++ more)
  ends : (old new : Editor) (asked : Command) (later : List Command) (result : Result Went EditFault) (written : List ℕ) (sent : List Exchange)
      → Commands old asked new result written sent → StaysAt old new → result ≢ Ok On
      → Runs old (asked ∷ later) new result written sent

-- What a sink holds grew by these bytes, and what a dialer tells by these exchanges.
pub record Writes (held held' : Option (List ℕ)) (told told' : Option (List Exchange)) (faults faults' : ℕ) (P : List ℕ → List Exchange → Type 0) : Type 0 where
  pub written : List ℕ
  pub grew : Appends held held' written
  pub made : Exchanged told told' faults faults' (P written)
