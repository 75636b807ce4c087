-- What an editor shows.
use Rattle.std.specs.Prelude.{Option}
use Rattle.save_session.specs.declared.session.Session.{Session}
use Rattle.wopi_client.specs.declared.desktop.Desktop.{Desktop}
use Rattle.grid_editor.specs.declared.editor.Editor.{Editor}
use Rattle.grid_editor.specs.Sheets.{Edited}

-- the file and the host whose sheet is edited
abbrev pub desktop_of : Editor → Desktop
desktop_of editor = editor.desktop

abbrev pub session_of : Editor → Session
session_of editor = editor.session

-- the open sheet
abbrev pub sheet_of : Editor → Option Edited
sheet_of editor = editor.sheet
