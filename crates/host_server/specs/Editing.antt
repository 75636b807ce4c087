-- What a host that serves editors answers beyond what every host does. (MS-WOPI, CheckFileInfo, has the members that a body has beside the others, PostMessageOrigin among them, and says of each what it tells; that the token may stand in an Authorization field is RFC 6750, 2.1; what HEAD and OPTIONS are told is RFC 9110, 9.3.2 and 9.3.7; which of them stand, what an editor is told of a host's health, and that OPTIONS tells the same of each target, is own.)
use Rattle.std.specs.Prelude.{ℕ, Bool, true, false, not, ◌&&◌, ◌==◌, if◌then◌else◌, List, [], ◌∷◌, length, codes, drop, Option, None, Some, option_and_then, option_map}
use Rattle.std.specs.Str.{bytes_eq}
use Rattle.serde_json.specs.Data.{Data, Members, boolean, number, unsigned, string, object, member, no_members, put}
use Rattle.serde_json.specs.Written.{compact_text}
use Rattle.wopi_http.specs.declared.message.Field.{Field}
use Rattle.wopi_http.specs.declared.message.Method.{Method}
use Rattle.wopi_http.specs.declared.message.Method.TheVariants.{Get, Post, Head, Options, Other}
use Rattle.wopi_http.specs.declared.message.Request.{Request}
use Rattle.wopi_headers.specs.Readings.{value_named}
use Rattle.wopi_headers.specs.Targets.{begins_with}
use Rattle.access_tokens.specs.OriginTests.{passes}
use Rattle.put_relative.specs.CopyNames.{ending_of}
use Rattle.file_info.specs.declared.info.Info.{Info}
use Rattle.file_info.specs.Info.{info_text}
use Rattle.file_info.specs.declared.save.Saved.{Saved}
use Rattle.file_info.specs.Saved.{digest_text}
use Rattle.host_core.specs.declared.facts.Facts.{Facts}
use Rattle.moment_text.specs.Text.{moment_text}

-- what is told as the page's origin passes the tests of one
unfoldable pub may_tell : Option (List ℕ) → Bool
may_tell None = true
may_tell (Some origin) = passes origin

-- the member that tells the origin of the page which the editor stands in, where there is one, in front of these
abbrev pub with_origin : Option (List ℕ) → Members → Members
with_origin None others = others
with_origin (Some origin) others = member (codes "PostMessageOrigin") (string origin) others

-- a file's last save: its moment, and the digest of the contents
abbrev pub Last : Type 0
Last = ℕ × List ℕ

-- what is told of it, where both are
abbrev pub last_of : Option Facts → Option Last
last_of None = None
last_of (Some facts) = option_map (λ digest. (facts.saved, digest.bytes)) facts.digest

abbrev pub last_in : Option Saved → Option Last
last_in saved = option_map (λ save. (save.moment, save.digest)) saved

-- the member that tells when the file was last saved, where that is told, in front of these
abbrev pub with_moment : Option Last → Members → Members
with_moment None others = others
with_moment (Some last) others = member (codes "LastModifiedTime") (string (moment_text last.0)) others

-- the member that tells the digest of its contents, likewise
abbrev pub with_digest : Option Last → Members → Members
with_digest None others = others
with_digest (Some last) others = member (codes "SHA256") (string (digest_text last.1)) others

-- the members of a file's answer to an editor: those of every answer, and what kind of file it is, what its last save was, that it can't be
-- renamed, whether and under which name the user may change it, and with which page the editor speaks
abbrev pub editor_json : Option (List ℕ) → Option Last → Info → Data
editor_json origin last info =
    object
    (member (codes "BaseFileName") (string info.name)
    (member (codes "FileExtension") (string (ending_of info.name))
    (with_moment last
    (member (codes "OwnerId") (string info.owner)
    (with_origin origin
    (member (codes "ReadOnly") (boolean (not info.can_write))
    (with_digest last
    (member (codes "Size") (number (unsigned info.size))
    (member (codes "SupportsDeleteFile") (boolean true)
    (member (codes "SupportsExtendedLockLength") (boolean true)
    (member (codes "SupportsGetLock") (boolean true)
    (member (codes "SupportsLocks") (boolean true)
    (member (codes "SupportsRename") (boolean false)
    (member (codes "SupportsUpdate") (boolean true)
    (member (codes "UserCanNotWriteRelative") (boolean (not info.can_write))
    (member (codes "UserCanRename") (boolean false)
    (member (codes "UserCanWrite") (boolean info.can_write)
    (member (codes "UserFriendlyName") (string info.user)
    (member (codes "UserId") (string info.user)
    (member (codes "Version") (string info.version)
    no_members))))))))))))))))))))

-- members beside others, each at its place
abbrev pub with_members : List (List ℕ × Data) → Members → Members
with_members [] others = others
with_members (m ∷ ms) others = with_members ms (put m.0 m.1 others)

-- those of them that tell of the file itself
abbrev pub file_members : Info → List (List ℕ × Data)
file_members info =
    (codes "BaseFileName", string info.name) ∷ (codes "FileExtension", string (ending_of info.name)) ∷ (codes "OwnerId", string info.owner)
    ∷ (codes "Size", number (unsigned info.size)) ∷ (codes "Version", string info.version) ∷ []

-- those that tell what the host supports
abbrev pub supports_members : List (List ℕ × Data)
supports_members =
    (codes "SupportsDeleteFile", boolean true) ∷ (codes "SupportsExtendedLockLength", boolean true) ∷ (codes "SupportsGetLock", boolean true)
    ∷ (codes "SupportsLocks", boolean true) ∷ (codes "SupportsRename", boolean false) ∷ (codes "SupportsUpdate", boolean true) ∷ []

-- those that tell of the user who asks
abbrev pub user_members : Info → List (List ℕ × Data)
user_members info =
    (codes "ReadOnly", boolean (not info.can_write)) ∷ (codes "UserCanNotWriteRelative", boolean (not info.can_write)) ∷ (codes "UserCanRename", boolean false)
    ∷ (codes "UserCanWrite", boolean info.can_write) ∷ (codes "UserFriendlyName", string info.user) ∷ (codes "UserId", string info.user) ∷ []

-- those that tell of its last save, where that is told, beside others
abbrev pub with_last : Option Last → Members → Members
with_last None others = others
with_last (Some last) others = put (codes "SHA256") (string (digest_text last.1)) (put (codes "LastModifiedTime") (string (moment_text last.0)) others)

-- the one that tells the page's origin, where there is one, beside others
abbrev pub with_page : Option (List ℕ) → Members → Members
with_page None others = others
with_page (Some origin) others = put (codes "PostMessageOrigin") (string origin) others

-- the body of that answer, written without spaces
abbrev pub editor_text : Option (List ℕ) → Option Last → Info → List ℕ
editor_text origin last info = compact_text (editor_json origin last info)

-- the body of CheckFileInfo's answer, by whether the host serves editors, in which page, and what it tells of the file's last save
abbrev pub info_body : Bool → Option (List ℕ) → Option Last → Info → List ℕ
info_body editor origin last info = if editor then editor_text origin last info else info_text info

-- what a value bears behind the scheme, which is compared without regard to ASCII case
abbrev pub behind_scheme : List ℕ → Option (List ℕ)
behind_scheme value = if begins_with (codes "Bearer ") value then Some (drop 7 value) else None

-- the token that the first Authorization field bears
abbrev pub bearer_in : List Field → Option (List ℕ)
bearer_in fields = option_and_then behind_scheme (value_named (codes "Authorization") fields)

-- the token of the query, or where that is empty the one that a field bears; two that differ are none
abbrev pub joined : List ℕ → Option (List ℕ) → List ℕ
joined token None = token
joined token (Some borne) = if length token == 0 then borne else if bytes_eq token borne then token else []

-- the token that a request with this one in its query is judged by
abbrev pub token_taken : Bool → List Field → List ℕ → List ℕ
token_taken editor fields token = if editor then joined token (bearer_in fields) else token

abbrev pub is_get : Method → Bool
is_get Get = true
is_get Post = false
is_get Head = false
is_get Options = false
is_get Other = false

-- `GET /healthz`, by which a proxy asks whether the host is there
abbrev pub asks_health : Request → Bool
asks_health q = is_get q.method && bytes_eq q.target (codes "/healthz")

-- the status of a request that asks for nothing, which else has this one
abbrev pub refused_status : Bool → Request → ℕ → ℕ
refused_status editor q status = if editor && asks_health q then 200 else status

-- a HEAD, which asks for the reply to a GET without its body
abbrev pub is_head : Method → Bool
is_head Get = false
is_head Post = false
is_head Head = true
is_head Options = false
is_head Other = false

abbrev pub asks_head : Bool → Request → Bool
asks_head editor q = editor && is_head q.method

-- an OPTIONS, which asks for the methods
abbrev pub is_options : Method → Bool
is_options Get = false
is_options Post = false
is_options Head = false
is_options Options = true
is_options Other = false

abbrev pub asks_options : Bool → Request → Bool
asks_options editor q = editor && is_options q.method

-- the request as a GET
abbrev pub as_get : Request → Request
as_get q = record q { method = Get }

-- the request that this one is answered as
abbrev pub judged_as : Bool → Request → Request
judged_as editor q = if asks_head editor q then as_get q else q
