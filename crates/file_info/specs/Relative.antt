-- What PutRelativeFile answers, as JSON (RFC 8259). (MS-WOPI, PutRelativeFile, has both members.)
use Rattle.std.specs.Prelude.{◌≡◌, ℕ, List, [], ◌∷◌, codes, Some}
use Rattle.serde_json.specs.Data.{Data, string, object, member, no_members}
use Rattle.serde_json.specs.Written.{compact_text}
use Rattle.file_info.specs.Json.{IsJsonOf, text_at, member_name}
use Rattle.file_info.specs.declared.fault.Required.{Required}
use Rattle.file_info.specs.declared.fault.Required.TheVariants.{Name, Url}

-- the members of the answer that names the new file and its address
abbrev pub relative_json : List ℕ → List ℕ → Data
relative_json name url =
    object
    (member (codes "Name") (string name)
    (member (codes "Url") (string url)
    no_members))

-- the body of that answer, written without spaces
abbrev pub relative_text : List ℕ → List ℕ → List ℕ
relative_text name url = compact_text (relative_json name url)

-- the members that a reader needs, in the order in which it looks
abbrev pub relative_required : List Required
relative_required = Name ∷ Url ∷ []

-- the bytes read as this name and this address
abbrev pub IsRelativeOf : List ℕ → List ℕ → List ℕ → Type 0
IsRelativeOf bytes name url = (value : Data) × IsJsonOf bytes value
    × (text_at (member_name Name) value ≡ Some name) × (text_at (member_name Url) value ≡ Some url)
