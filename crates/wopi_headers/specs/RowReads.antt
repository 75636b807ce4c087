-- What is answered on the way to what a request asks for.
use Rattle.std.specs.Prelude.{ℕ, ◌≡◌, ◌⊎◌, Bool, List, Option, Some, None, Result, Ok, Err, ⊤}
use Rattle.wopi_http.specs.declared.message.Field.{Field}
use Rattle.wopi_http.specs.declared.message.Method.{Method}
use Rattle.wopi_headers.specs.declared.ask.Ask.{Ask}
use Rattle.wopi_headers.specs.declared.ask.AskFault.{AskFault}
use Rattle.wopi_headers.specs.declared.ask.AskFault.TheVariants.{Refused, Memory}
use Rattle.wopi_headers.specs.declared.ask.Op.{Op}
use Rattle.wopi_headers.specs.declared.row.Row.{Row}
use Rattle.wopi_headers.specs.Operations.{Says, HasOneOverride}
use Rattle.wopi_headers.specs.Rows.{row_asked}

-- The row of a request to a file, or to its contents; else the status that refuses it.
abbrev pub IsRowIn : Method → Bool → List Field → Result Row ℕ → Type 0
IsRowIn method contents fields (Ok row) = (row_asked method contents fields ≡ Some row) × HasOneOverride row fields
IsRowIn method contents fields (Err s) =
    ((s ≡ 501) × (row_asked method contents fields ≡ None))
    ⊎ ((s ≡ 400) × ((row : Row) × (row_asked method contents fields ≡ Some row) × ¬ (HasOneOverride row fields)))

-- What the reader of a row answers, for this file and this token, and what it puts into its place.
abbrev pub IsRead : Row → List ℕ → List ℕ → List Field → Result (Unit {0}) AskFault → Option Ask → Type 0
IsRead row file token fields (Ok done) (Some a) = (a.file ≡ file) × (a.token ≡ token) × Says row fields a.op
IsRead row file token fields (Ok done) None = ⊥
IsRead row file token fields (Err (Refused s)) place = (s ≡ 400) × ((op : Op) → ¬ (Says row fields op))
IsRead row file token fields (Err Memory) place = ⊤
