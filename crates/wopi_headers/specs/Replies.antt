-- The reply that carries an answer (MS-WOPI; that every 409 has lock and reason is own, and so is which operations tell the version).
use Rattle.std.specs.Prelude.{ℕ, Bool, List, [], ◌∷◌, ◌++◌, codes, decimal, length, Option, Some, None, if◌then◌else◌, ◌==◌}
use Rattle.wopi_http.specs.declared.message.Field.{Field}
use Rattle.wopi_http.specs.declared.message.Reply.{Reply}
use Rattle.wopi_text.specs.declared.lock_field.LockField.{LockField}
use Rattle.wopi_text.specs.declared.lock_field.LockField.TheVariants.{Absent, Empty, Held}
use Rattle.wopi_text.specs.declared.reason.Reason.{Reason}
use Rattle.wopi_text.specs.Reasons.{reason_text}
use Rattle.wopi_headers.specs.declared.answer.Answer.{Answer}
use Rattle.wopi_headers.specs.declared.answer.BodyKind.{BodyKind}
use Rattle.wopi_headers.specs.declared.answer.BodyKind.TheVariants.{None as NoBody, Json, Octets, Plain}

abbrev pub field : List ℕ → List ℕ → Field
field name value = record { name = name; value = value }

unfoldable pub length_field : List ℕ → Field
length_field body = field (codes "Content-Length") (decimal (length body))

-- the type of a body
abbrev pub type_of : BodyKind → List Field
type_of NoBody = []
type_of Json = field (codes "Content-Type") (codes "application/json") ∷ []
type_of Octets = field (codes "Content-Type") (codes "application/octet-stream") ∷ []
type_of Plain = field (codes "Content-Type") (codes "text/plain") ∷ []

-- where there is a body
unfoldable pub type_fields : BodyKind → List ℕ → List Field
type_fields kind body = if length body == 0 then [] else type_of kind

-- the standing lock, or an empty value where none stands
unfoldable pub lock_fields : LockField → List Field
lock_fields Absent = []
lock_fields Empty = field (codes "X-WOPI-Lock") [] ∷ []
lock_fields (Held id) = field (codes "X-WOPI-Lock") id ∷ []

unfoldable pub reason_fields : Option Reason → List Field
reason_fields None = []
reason_fields (Some reason) = field (codes "X-WOPI-LockFailureReason") (reason_text reason) ∷ []

unfoldable pub version_text : ℕ → List ℕ
version_text version = codes "v" ++ decimal version

unfoldable pub version_fields : Option ℕ → List Field
version_fields None = []
version_fields (Some version) = field (codes "X-WOPI-ItemVersion") (version_text version) ∷ []

unfoldable pub close_fields : Bool → List Field
close_fields close = if close then field (codes "Connection") (codes "close") ∷ [] else []

-- the fields of an answer, in this order
abbrev pub fields_of : Answer → Bool → List Field
fields_of a close =
    ((((length_field a.body ∷ type_fields a.kind a.body) ++ lock_fields a.lock) ++ reason_fields a.reason) ++ version_fields a.version) ++ close_fields close

unfoldable pub reply_of : Answer → Bool → Reply
reply_of a close = record { status = a.status; fields = fields_of a close; body = a.body }
