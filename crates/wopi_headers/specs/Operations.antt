-- Which operation a request asks for, and why a request asks for none (MS-WOPI; the order of the refusals is own).
use Rattle.std.specs.Prelude.{ℕ, ◌≡◌, Bool, List, Option, Some, None, Result, Ok, Err, ⊤}
use Rattle.wopi_http.specs.declared.message.Field.{Field}
use Rattle.wopi_http.specs.declared.message.Request.{Request}
use Rattle.wopi_http.specs.Fields.{count_named}
use Rattle.wopi_headers.specs.declared.ask.Ask.{Ask}
use Rattle.wopi_headers.specs.declared.ask.AskFault.{AskFault}
use Rattle.wopi_headers.specs.declared.ask.AskFault.TheVariants.{Refused, Memory}
use Rattle.wopi_headers.specs.declared.ask.Op.{Op}
use Rattle.wopi_headers.specs.declared.ask.Op.TheVariants.{Info, Get, Put, Lock, GetLock, Refresh, Unlock, Relock, PutRelative, Delete}
use Rattle.wopi_headers.specs.declared.row.Row.{Row}
use Rattle.wopi_headers.specs.declared.row.Row.TheVariants.{CheckFileInfo, GetFile, PutFile, Lock as LockRow, GetLock as GetLockRow, RefreshLock, Unlock as UnlockRow, PutRelativeFile, DeleteFile}
use Rattle.wopi_headers.specs.Targets.{path_of, token_of}
use Rattle.wopi_headers.specs.Paths.{IsFilePath}
use Rattle.wopi_headers.specs.Rows.{row_asked}
use Rattle.wopi_headers.specs.Readings.{override_name, lock_name, old_lock_name, IsMissing, IsLock, IsAnyLock, IsMost, IsTarget}

-- What the fields of a row say: the operation with its ids and sizes.
abbrev pub Says : Row → List Field → Op → Type 0
Says CheckFileInfo fields Info = ⊤
Says GetFile fields (Get most) = IsMost fields most
Says PutFile fields (Put lock) = IsAnyLock lock_name fields lock
Says LockRow fields (Lock id) = IsLock lock_name fields id × IsMissing old_lock_name fields
Says LockRow fields (Relock old id) = IsLock lock_name fields id × IsLock old_lock_name fields old
Says GetLockRow fields GetLock = ⊤
Says RefreshLock fields (Refresh id) = IsLock lock_name fields id
Says UnlockRow fields (Unlock id) = IsLock lock_name fields id
Says PutRelativeFile fields (PutRelative target) = IsTarget fields target
Says DeleteFile fields Delete = ⊤
Says row fields op = ⊥

-- A POST names its operation once.
abbrev pub HasOneOverride : Row → List Field → Type 0
HasOneOverride CheckFileInfo fields = ⊤
HasOneOverride GetFile fields = ⊤
HasOneOverride row fields = count_named override_name fields ≡ 1

-- The request asks for this operation, of this file and with this token.
pub record AsksFor (q : Request) (a : Ask) : Type 0 where
  pub contents : Bool
  pub row : Row
  pub path : IsFilePath (path_of q.target) a.file contents
  pub row_is : row_asked q.method contents q.fields ≡ Some row
  pub once : HasOneOverride row q.fields
  pub says : Says row q.fields a.op
  pub token_is : a.token ≡ token_of q.target

-- The request asks for nothing, and this status says why: its path names no file; it is no row of the table; or its fields have no reading.
pub data IsRefusal (q : Request) (s : ℕ) : Type 0 where
  no_file : s ≡ 404 → ((name : List ℕ) (contents : Bool) → ¬ (IsFilePath (path_of q.target) name contents)) → IsRefusal q s
  no_row : s ≡ 501 → (name : List ℕ) (contents : Bool) → IsFilePath (path_of q.target) name contents
      → row_asked q.method contents q.fields ≡ None → IsRefusal q s
  no_reading : s ≡ 400 → (name : List ℕ) (contents : Bool) (row : Row) → IsFilePath (path_of q.target) name contents
      → row_asked q.method contents q.fields ≡ Some row
      → ((op : Op) → HasOneOverride row q.fields → ¬ (Says row q.fields op)) → IsRefusal q s

-- What is answered to the question which operation a request asks for.
abbrev pub IsAnswerTo : Request → Result Ask AskFault → Type 0
IsAnswerTo q (Ok a) = AsksFor q a
IsAnswerTo q (Err (Refused s)) = IsRefusal q s
IsAnswerTo q (Err Memory) = ⊤

-- What is answered where an ask is put into a place, and what stands there then.
abbrev pub IsAnswerIn : Request → Result (Unit {0}) AskFault → Option Ask → Type 0
IsAnswerIn q (Ok done) (Some a) = AsksFor q a
IsAnswerIn q (Ok done) None = ⊥
IsAnswerIn q (Err fault) place = IsAnswerTo q (Err fault)
