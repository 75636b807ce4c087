-- The table of operations (MS-WOPI): what method, path, X-WOPI-Override and, for a copy, the presence of its two targets together ask for. Values of the override are compared exactly.
use Rattle.std.specs.Prelude.{ℕ, Bool, true, false, ◌&&◌, nat_lt, List, Option, Some, None, codes, if◌then◌else◌}
use Rattle.std.specs.Str.{bytes_eq}
use Rattle.wopi_http.specs.declared.message.Field.{Field}
use Rattle.wopi_http.specs.declared.message.Method.{Method}
use Rattle.wopi_http.specs.declared.message.Method.TheVariants.{Get, Post, Head, Options, Other}
use Rattle.wopi_http.specs.Fields.{count_named}
use Rattle.wopi_headers.specs.declared.row.Row.{Row}
use Rattle.wopi_headers.specs.declared.row.Row.TheVariants.{CheckFileInfo, GetFile, PutFile, Lock, GetLock, RefreshLock, Unlock, PutRelativeFile, DeleteFile}
use Rattle.wopi_headers.specs.Readings.{override_name, suggested_name, relative_name, value_named}

-- whether a copy is asked for under two names
abbrev pub has_two_targets : List Field → Bool
has_two_targets fields = nat_lt 0 (count_named suggested_name fields) && nat_lt 0 (count_named relative_name fields)

-- at a POST to a file; a copy under two names is no row
abbrev pub by_override : List ℕ → Bool → Option Row
by_override name two_targets =
    if bytes_eq name (codes "LOCK") then Some Lock
    else if bytes_eq name (codes "GET_LOCK") then Some GetLock
    else if bytes_eq name (codes "REFRESH_LOCK") then Some RefreshLock
    else if bytes_eq name (codes "UNLOCK") then Some Unlock
    else if bytes_eq name (codes "PUT_RELATIVE") then (if two_targets then None else Some PutRelativeFile)
    else if bytes_eq name (codes "DELETE") then Some DeleteFile
    else None

-- of a file, or of its contents, with this override
abbrev pub row_of : Method → Bool → Option (List ℕ) → Bool → Option Row
row_of Get true name two_targets = Some GetFile
row_of Get false name two_targets = Some CheckFileInfo
row_of Post contents None two_targets = None
row_of Post true (Some name) two_targets = if bytes_eq name (codes "PUT") then Some PutFile else None
row_of Post false (Some name) two_targets = by_override name two_targets
row_of Head contents name two_targets = None
row_of Options contents name two_targets = None
row_of Other contents name two_targets = None

-- the row of a request to a file, or to its contents
unfoldable pub row_asked : Method → Bool → List Field → Option Row
row_asked method contents fields = row_of method contents (value_named override_name fields) (has_two_targets fields)
