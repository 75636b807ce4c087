-- What an editor does about a command: what it sends, what becomes of its sheet, what it writes, and how it goes on. (Own.)
use Rattle.std.specs.Prelude.{ℕ, ◌≡◌, ◌⊎◌, List, [], ◌∷◌, ◌++◌, Option, Some, None, Result, Ok, Err, length, take, ⊤}
use Rattle.outside.specs.declared.dialer.Exchange.{Exchange}
use Rattle.save_session.specs.declared.input.Input.{Input}
use Rattle.save_session.specs.declared.input.Input.TheVariants as input
use Rattle.save_session.specs.declared.output.Outcome.{Outcome}
use Rattle.save_session.specs.declared.output.Outcome.TheVariants as outcome
use Rattle.save_session.specs.declared.state.State.{State}
use Rattle.save_session.specs.Session.{contents_of}
use Rattle.save_session.specs.Views.{nonce_of, state_of}
use Rattle.wopi_client.specs.declared.driving.DriveFault.{DriveFault}
use Rattle.wopi_client.specs.declared.driving.DriveFault.TheVariants as drive
use Rattle.wopi_client.specs.declared.copying.AsOutcome.{AsOutcome}
use Rattle.wopi_client.specs.declared.copying.AsOutcome.TheVariants.{Saved, Other}
use Rattle.wopi_client.specs.declared.copying.AsFault.{AsFault}
use Rattle.wopi_client.specs.declared.copying.AsFault.TheVariants as copy
use Rattle.wopi_client.specs.Talk.{Drive}
use Rattle.wopi_client.specs.Copies.{SavesAs}
use Rattle.grid_sheet.specs.declared.fault.GridFault.{GridFault}
use Rattle.grid_sheet.specs.declared.fault.GridFault.TheVariants.{TooMany}
use Rattle.grid_sheet.specs.Rows.{Rows, IsGrid}
use Rattle.grid_sheet.specs.Text.{read_of, write_of}
use Rattle.wopi_text.specs.declared.faults.Memory as wanting
use Rattle.grid_editor.specs.declared.command.Command.{Command}
use Rattle.grid_editor.specs.declared.command.Command.TheVariants as command
use Rattle.grid_editor.specs.declared.editor.Editor.{Editor}
use Rattle.grid_editor.specs.declared.turns.EditFault.{EditFault}
use Rattle.grid_editor.specs.declared.turns.EditFault.TheVariants.{BadReply, WriteFault, Memory}
use Rattle.grid_editor.specs.declared.turns.Turn.{Turn}
use Rattle.grid_editor.specs.declared.turns.Went.TheVariants.{On}
use Rattle.grid_editor.specs.Sheets.{Edited, after_edit, most_undos}
use Rattle.grid_editor.specs.Values.{values_line}
use Rattle.grid_editor.specs.Lines.{outcome_line, went_of, opened_line, copied_line, not_open, nothing_to_undo, refusal_line}

-- the script goes on behind a line
abbrev pub writes : List ℕ → Turn
writes line = record { line = line; went = On }

-- the line of an outcome, and whether it ends the script
abbrev pub tells : Outcome → Turn
tells told = record { line = outcome_line told; went = went_of told }

-- a sheet and a turn
pub record Done : Type 0 where
  pub sheet : Edited
  pub turn : Turn

-- an edit that was made writes nothing, and a refused one changes nothing
abbrev pub edits : Edited → Result Rows GridFault → Done
edits sheet (Ok rows) = record { sheet = record { rows = rows; past = take most_undos (sheet.rows ∷ sheet.past) }; turn = writes [] }
edits sheet (Err why) = record { sheet = sheet; turn = writes (refusal_line why) }

-- the rows before the last edit that isn't undone
abbrev pub undoes : Edited → List Rows → Done
undoes sheet [] = record { sheet = sheet; turn = writes nothing_to_undo }
undoes sheet (rows ∷ past) = record { sheet = record { rows = rows; past = past }; turn = writes [] }

-- what is done with an open sheet alone
abbrev pub done_with : Edited → Command → Done
done_with sheet command.Show = record { sheet = sheet; turn = writes (write_of sheet.rows) }
done_with sheet command.Values = record { sheet = sheet; turn = writes (values_line sheet.rows) }
done_with sheet command.Undo = undoes sheet sheet.past
done_with sheet asked = edits sheet (after_edit sheet.rows asked)

-- want of memory is a fault of the editor too
abbrev pub edit_result : Result Turn wanting.Memory → Result Turn EditFault
edit_result (Ok turn) = Ok turn
edit_result (Err none) = Err Memory

-- the turn is this one, unless memory runs out
abbrev pub IsTurn : Turn → Result Turn EditFault → Type 0
IsTurn turn (Ok made) = made ≡ turn
IsTurn turn (Err Memory) = ⊤
IsTurn turn (Err why) = ⊥

-- The session read the contents. They are the sheet, with nothing to undo, or too many rows or cells, and then no sheet is open.
abbrev pub IsOpened : List ℕ → Option ℕ → Option Edited → Turn → Type 0
IsOpened contents version sheet turn =
    (IsGrid (read_of contents) × (sheet ≡ Some (record { rows = read_of contents; past = [] })) × (turn ≡ writes (opened_line version (length (read_of contents)))))
    ⊎ ((IsGrid (read_of contents) → ⊥) × (sheet ≡ None) × (turn ≡ writes (refusal_line TooMany)))

-- a sheet is open until the session is closed
abbrev pub sheet_after : Option Edited → Outcome → Option Edited
sheet_after sheet outcome.Closed = None
sheet_after sheet told = sheet

-- what becomes of the sheet, and what is written, by what the session told
abbrev pub IsTold : Option Edited → List ℕ → Outcome → Option Edited → Turn → Type 0
IsTold before contents (outcome.Opened version) sheet turn = IsOpened contents version sheet turn
IsTold before contents told sheet turn = (sheet ≡ sheet_after before told) × (turn ≡ tells told)

-- the same by how a drive ended; an input that the session ignores leaves the sheet
abbrev pub IsDriven : Option Edited → List ℕ → Result Outcome DriveFault → Option Edited → Result Turn EditFault → Type 0
IsDriven before contents came sheet (Err Memory) = ⊤
IsDriven before contents (Ok told) sheet (Ok turn) = IsTold before contents told sheet turn
IsDriven before contents (Err (drive.Ignored other)) sheet (Ok turn) = (sheet ≡ before) × (turn ≡ writes not_open)
IsDriven before contents (Err (drive.BadReply at)) sheet (Err (BadReply place)) = (sheet ≡ before) × (place ≡ at)
IsDriven before contents came sheet result = ⊥

-- the session was driven by this input
pub record Drives (old : Editor) (asked : Input) (new : Editor) (result : Result Turn EditFault) (exchanges : List Exchange) : Type 0 where
  pub came : Result Outcome DriveFault
  pub drive : Drive old.desktop (nonce_of old.session) (state_of old.session) asked (state_of new.session) came exchanges
  pub driven : IsDriven old.sheet (contents_of (state_of new.session)) came new.sheet result

-- nothing was sent, and the session and the sheet are as they were
pub record Stays (old new : Editor) (result : Result Turn EditFault) (exchanges : List Exchange) : Type 0 where
  pub session : state_of new.session ≡ state_of old.session
  pub sheet : new.sheet ≡ old.sheet
  pub none : exchanges ≡ []

-- no sheet is open
abbrev pub IsNotOpen : Editor → Editor → Result Turn EditFault → List Exchange → Type 0
IsNotOpen old new result exchanges = Stays old new result exchanges × IsTurn (writes not_open) result

-- there was no memory for the text of the sheet
abbrev pub IsUnwritten : Editor → Editor → Result Turn EditFault → List Exchange → Type 0
IsUnwritten old new result exchanges = Stays old new result exchanges × (result ≡ Err Memory)

abbrev pub Saves : Editor → Option Edited → Editor → Result Turn EditFault → List Exchange → Type 0
Saves old None new result exchanges = IsNotOpen old new result exchanges
Saves old (Some sheet) new result exchanges =
    IsUnwritten old new result exchanges ⊎ Drives old (input.Save (write_of sheet.rows)) new result exchanges

abbrev pub Refreshes : Editor → Option Edited → Editor → Result Turn EditFault → List Exchange → Type 0
Refreshes old None new result exchanges = IsNotOpen old new result exchanges
Refreshes old (Some sheet) new result exchanges = Drives old input.Refresh new result exchanges

-- what is written by how a copy came out
abbrev pub IsCopyTold : Result AsOutcome AsFault → Result Turn EditFault → Type 0
IsCopyTold came (Err Memory) = ⊤
IsCopyTold (Ok (Saved name)) (Ok turn) = turn ≡ writes (copied_line name)
IsCopyTold (Ok (Other told)) (Ok turn) = turn ≡ tells told
IsCopyTold (Err (copy.BadReply at)) (Err (BadReply place)) = place ≡ at
IsCopyTold came result = ⊥

-- a copy of the sheet's text was asked for under this name
pub record CopiesSheet (old : Editor) (name text : List ℕ) (new : Editor) (result : Result Turn EditFault) (exchanges : List Exchange) : Type 0 where
  pub came : Result AsOutcome AsFault
  pub copy : SavesAs old.desktop name text came exchanges
  pub told : IsCopyTold came result
  pub session : state_of new.session ≡ state_of old.session
  pub sheet : new.sheet ≡ old.sheet

abbrev pub Copies : Editor → Option Edited → List ℕ → Editor → Result Turn EditFault → List Exchange → Type 0
Copies old None name new result exchanges = IsNotOpen old new result exchanges
Copies old (Some sheet) name new result exchanges =
    IsUnwritten old new result exchanges ⊎ CopiesSheet old name (write_of sheet.rows) new result exchanges

-- what is made of a sheet without the host
abbrev pub IsDone : Done → Option Edited → Result Turn EditFault → Type 0
IsDone done sheet (Ok turn) = (sheet ≡ Some done.sheet) × (turn ≡ done.turn)
IsDone done sheet (Err Memory) = ⊤
IsDone done sheet (Err why) = ⊥

abbrev pub IsAlone : Option Edited → Command → Option Edited → Result Turn EditFault → Type 0
IsAlone None asked sheet result = (sheet ≡ None) × IsTurn (writes not_open) result
IsAlone (Some before) asked sheet result = IsDone (done_with before asked) sheet result

pub record DoneAlone (old : Editor) (asked : Command) (new : Editor) (result : Result Turn EditFault) (exchanges : List Exchange) : Type 0 where
  pub session : state_of new.session ≡ state_of old.session
  pub alone : IsAlone old.sheet asked new.sheet result
  pub none : exchanges ≡ []

-- What an editor does about a command. `open` and `close` are the session's to take or to ignore; all others want an open sheet.
abbrev pub Does : Editor → Command → Editor → Result Turn EditFault → List Exchange → Type 0
Does old command.Open new result exchanges = Drives old input.Start new result exchanges
Does old command.Close new result exchanges = Drives old input.Close new result exchanges
Does old command.Save new result exchanges = Saves old old.sheet new result exchanges
Does old command.Refresh new result exchanges = Refreshes old old.sheet new result exchanges
Does old (command.SaveAs name) new result exchanges = Copies old old.sheet name new result exchanges
Does old asked new result exchanges = DoneAlone old asked new result exchanges
