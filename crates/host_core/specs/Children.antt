-- The files of a shard that exist, as a listing tells them. (Own.)
use Rattle.std.specs.Prelude.{◌≡◌, ◌↔◌, ℕ, List, length, map, Option, Some, option_map}
use Rattle.std.specs.List.{Contains}
use Rattle.std.specs.List.Sorted.{IsStrictlySortedBy}
use Rattle.std.specs.Ordering.{nat_cmp}
use Rattle.std.specs.Cmp.Lexicographic.{slice_cmp}
use Rattle.wopi_model.specs.File.{File}
use Rattle.host_core.specs.declared.children.Child.{Child}
use Rattle.host_core.specs.declared.file.KeptFile.{KeptFile}

-- the file of the child's name exists, with that size and version
abbrev pub IsChild : (List ℕ → File) → Child → Type 0
IsChild files child =
    let file = files child.name in
    (option_map (λ contents. length contents) file.contents ≡ Some child.size) × (file.version ≡ child.version)

abbrev pub child_names : List Child → List (List ℕ)
child_names children = map (λ child. child.name) children

-- the files that exist, each once, in the order of the names' bytes
pub record AreChildren (files : List ℕ → File) (children : List Child) : Type 0 where
  pub ordered : IsStrictlySortedBy (slice_cmp nat_cmp) (child_names children)
  pub exact : (child : Child) → Contains children child ↔ IsChild files child

-- what a listing tells of a kept file
abbrev pub child_in : KeptFile → Option Child
child_in kept = option_map (λ contents. record { name = kept.name; version = kept.version; size = length contents }) kept.contents
