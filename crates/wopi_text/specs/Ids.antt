-- The id of a file, by which requests name it. (Own: MS-WOPI leaves the form of file ids to the host.)
use Rattle.std.specs.Prelude.{ℕ, ◌≡◌, List}
use Rattle.hex.specs.Hex.{encode_lower}
use Rattle.wopi_text.specs.FileName.{IsFileName}

-- the id of a name: its bytes in lower-case hex
abbrev pub id_of : List ℕ → List ℕ
id_of name = encode_lower name

-- the id is that of some file's name
abbrev pub IsId : List ℕ → Type 0
IsId id = (name : List ℕ) × IsFileName name × (id ≡ id_of name)
