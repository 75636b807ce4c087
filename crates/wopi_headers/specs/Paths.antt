-- The paths of files (MS-WOPI, /wopi/files/{file_id} and /wopi/files/{file_id}/contents).
use Rattle.std.specs.Prelude.{ℕ, ◌≡◌, ◌↔◌, Bool, List, [], ◌++◌, codes, if◌then◌else◌}
use Rattle.wopi_text.specs.FileName.{IsFileName}
use Rattle.wopi_text.specs.Ids.{id_of}

abbrev pub ending : Bool → List ℕ
ending contents = if contents then codes "/contents" else []

-- the path of a file, or of its contents
unfoldable pub file_path : List ℕ → Bool → List ℕ
file_path name contents = codes "/wopi/files/" ++ (id_of name ++ ending contents)

pub record IsFilePath (path name : List ℕ) (contents : Bool) : Type 0 where
  pub form : IsFileName name
  pub path_is : path ≡ file_path name contents

-- the id is that of this file
abbrev pub IsPlace : List ℕ → List ℕ → Type 0
IsPlace id name = IsFileName name × (id ≡ id_of name)

-- the path is that of the file with this id, or of its contents, and of no other
abbrev pub IsIdIn : List ℕ → List ℕ → Bool → Type 0
IsIdIn path id contents = (name : List ℕ) (c : Bool) → IsFilePath path name c ↔ (IsPlace id name × (c ≡ contents))
