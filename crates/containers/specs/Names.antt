-- Files by their names.
use Rattle.std.specs.Prelude.{ℕ, Bool, List}
use Rattle.std.specs.List.{IsDistinct}
use Rattle.std.specs.Ordering.{nat_cmp, eq_by_cmp, is_lt}
use Rattle.std.specs.declared.cmp.Ordering.{Ordering}
use Rattle.std.specs.Cmp.Lexicographic.{slice_cmp}
use Rattle.host_core.specs.Children.{child_names}
use Rattle.host_core.specs.declared.children.Child.{Child}

-- the order of names
abbrev pub by_bytes : List ℕ → List ℕ → Ordering
by_bytes = slice_cmp nat_cmp

-- no two have one name
abbrev pub AreNamedApart : List Child → Type 0
AreNamedApart children = IsDistinct (eq_by_cmp by_bytes) (child_names children)

-- a file's name stands before another's
abbrev pub is_before : Child → Child → Bool
is_before a b = is_lt (by_bytes a.name b.name)
