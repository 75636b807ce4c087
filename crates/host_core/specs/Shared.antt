-- Contents as the definitions see them.
use Rattle.std.specs.Prelude.{ℕ, List}
use Rattle.std.specs.Arc.{arc_value}
use Rattle.host_core.specs.declared.contents.Form.{Form}
use Rattle.host_core.specs.declared.contents.Form.TheVariants as form

-- the bytes, by one owner or by several
abbrev pub bytes_in : Form → List ℕ
bytes_in (form.Own bytes) = bytes
bytes_in (form.Shared bytes) = arc_value bytes
