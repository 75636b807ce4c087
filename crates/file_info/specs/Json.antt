-- How the JSON bodies are read. (RFC 8259; serde_json reads each key's last value.)
use Rattle.std.specs.Prelude.{◌≡◌, ℕ, List, [], ◌∷◌, codes, Bool, Option, Some, None, is_some, option_and_then, if◌then◌else◌, ⊤}
use Rattle.std.specs.Str.{IsUtf8}
use Rattle.serde_json.specs.Data.{Data}
use Rattle.serde_json.specs.Read.{read as json_read}
use Rattle.serde_json.specs.Find.{get, as_str, as_number, as_u64}
use Rattle.file_info.specs.declared.fault.Required.{Required}
use Rattle.file_info.specs.declared.fault.Required.TheVariants.{BaseFileName, OwnerId, Size, UserId, Version, Name, Url}
use Rattle.file_info.specs.declared.fault.InfoFault.{InfoFault}
use Rattle.file_info.specs.declared.fault.InfoFault.TheVariants.{NotJson, Missing, Memory}

-- the bytes are the text of this value
abbrev pub IsJsonOf : List ℕ → Data → Type 0
IsJsonOf bytes value = IsUtf8 bytes × (json_read bytes ≡ Some value)

-- the text that the member of this name is, if it is one
abbrev pub text_at : List ℕ → Data → Option (List ℕ)
text_at name value = option_and_then as_str (get name value)

-- the whole number from 0 to the greatest u64 that the member of this name is, if it is one
abbrev pub number_at : List ℕ → Data → Option ℕ
number_at name value = option_and_then as_u64 (option_and_then as_number (get name value))

abbrev pub member_name : Required → List ℕ
member_name BaseFileName = codes "BaseFileName"
member_name OwnerId = codes "OwnerId"
member_name Size = codes "Size"
member_name UserId = codes "UserId"
member_name Version = codes "Version"
member_name Name = codes "Name"
member_name Url = codes "Url"

-- the value has the member, of its kind: the size is a number, the others are texts
abbrev pub has : Data → Required → Bool
has value Size = is_some (number_at (member_name Size) value)
has value field = is_some (text_at (member_name field) value)

-- the first of the members that the value has not
abbrev pub first_missing : List Required → Data → Option Required
first_missing [] value = None
first_missing (field ∷ later) value = if has value field then first_missing later value else Some field

-- why bytes are no body with these members: they are no JSON, or lack one
abbrev pub IsFaultOf : List Required → List ℕ → InfoFault → Type 0
IsFaultOf required bytes NotJson = (value : Data) → ¬ IsJsonOf bytes value
IsFaultOf required bytes (Missing field) = (value : Data) × IsJsonOf bytes value × (first_missing required value ≡ Some field)
IsFaultOf required bytes Memory = ⊤
