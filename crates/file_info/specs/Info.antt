-- What CheckFileInfo answers, as JSON (RFC 8259). (MS-WOPI, CheckFileInfo, has the members and what each says; which of them stand, and in the order of their names, is own.)
use Rattle.std.specs.Prelude.{◌≡◌, ◌↔◌, ℕ, List, [], ◌∷◌, codes, true, not, Some}
use Rattle.std.specs.Str.{IsUtf8}
use Rattle.serde_json.specs.Data.{Data, boolean, number, unsigned, string, object, member, no_members}
use Rattle.serde_json.specs.Find.{get}
use Rattle.serde_json.specs.Written.{compact_text}
use Rattle.file_info.specs.Json.{IsJsonOf, text_at, number_at, member_name}
use Rattle.file_info.specs.declared.fault.Required.{Required}
use Rattle.file_info.specs.declared.fault.Required.TheVariants.{BaseFileName, OwnerId, Size, UserId, Version}
use Rattle.file_info.specs.declared.info.Info.{Info}

-- the members of a file's answer
abbrev pub info_json : Info → Data
info_json info =
    object
    (member (codes "BaseFileName") (string info.name)
    (member (codes "OwnerId") (string info.owner)
    (member (codes "Size") (number (unsigned info.size))
    (member (codes "SupportsDeleteFile") (boolean true)
    (member (codes "SupportsExtendedLockLength") (boolean true)
    (member (codes "SupportsGetLock") (boolean true)
    (member (codes "SupportsLocks") (boolean true)
    (member (codes "SupportsUpdate") (boolean true)
    (member (codes "UserCanNotWriteRelative") (boolean (not info.can_write))
    (member (codes "UserCanWrite") (boolean info.can_write)
    (member (codes "UserId") (string info.user)
    (member (codes "Version") (string info.version)
    no_members))))))))))))

-- the body of that answer, written without spaces
abbrev pub info_text : Info → List ℕ
info_text info = compact_text (info_json info)

-- each of its texts is UTF-8, so that JSON can write it
pub record HasTexts (info : Info) : Type 0 where
  pub name : IsUtf8 info.name
  pub owner : IsUtf8 info.owner
  pub user : IsUtf8 info.user
  pub version : IsUtf8 info.version

-- the members that a reader needs, in the order in which it looks
abbrev pub info_required : List Required
info_required = BaseFileName ∷ OwnerId ∷ Size ∷ UserId ∷ Version ∷ []

-- the value tells this of a file; other members are ignored, and the right to write is there only where it is `true`
pub record Tells (value : Data) (info : Info) : Type 0 where
  pub name : text_at (member_name BaseFileName) value ≡ Some info.name
  pub owner : text_at (member_name OwnerId) value ≡ Some info.owner
  pub size : number_at (member_name Size) value ≡ Some info.size
  pub user : text_at (member_name UserId) value ≡ Some info.user
  pub version : text_at (member_name Version) value ≡ Some info.version
  pub can_write : (info.can_write ≡ true) ↔ (get (codes "UserCanWrite") value ≡ Some (boolean true))

-- the bytes read as what is known of a file
abbrev pub IsInfoOf : List ℕ → Info → Type 0
IsInfoOf bytes info = (value : Data) × IsJsonOf bytes value × Tells value info
