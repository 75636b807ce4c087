-- Names in their order differ.
use Rattle.std.proofs.Common.{◌≡◌, List, [], ◌∷◌, String, string_bytes, map, true, false, refl, sym, ◌∙◌}
use Rattle.std.proofs.lemmas.Bool.{or_from}
use Rattle.std.proofs.lemmas.Map.Keys.{IsDistinct-from_sorted}
use Rattle.std.proofs.lemmas.Map.Text.{is_eq-slice_cmp}
use Rattle.std.specs.List.{list_any, AllByRecursion, IsDistinct}
use Rattle.std.specs.List.Sorted.{IsStrictlySortedBy}
use Rattle.std.specs.Ordering.{eq_by_cmp}
use Rattle.std.specs.Str.{bytes_eq}
use Rattle.std.specs.String.{string_cmp}
use Rattle.std.specs.declared.alloc.Global.{Global}
use Rattle.outside.specs.Folder.{all_differ}
use Rattle.outside.proofs.Distinct.{differ-whole, bytes_eq-swap}

abbrev Names : Type 0
Names = List (String Global)

alone : (name : String Global) (names : Names) → AllByRecursion (λ other. eq_by_cmp string_cmp name other ≡ false) names
    → list_any (λ other. bytes_eq other (string_bytes name)) (map string_bytes names) ≡ false
alone name [] apart = refl
alone name (other ∷ names) (now, later) =
    or_from (bytes_eq (string_bytes other) (string_bytes name)) (list_any (λ o. bytes_eq o (string_bytes name)) (map string_bytes names))
    (bytes_eq-swap (string_bytes name) (string_bytes other) (sym (is_eq-slice_cmp (string_bytes name) (string_bytes other)) ∙ now)) (alone name names later)

differ_from_distinct : (names : Names) → IsDistinct (eq_by_cmp string_cmp) names → all_differ (map string_bytes names) ≡ true
unfolding IsDistinct
differ_from_distinct [] distinct = refl
differ_from_distinct (name ∷ names) (apart, rest) =
    differ-whole (list_any (λ o. bytes_eq o (string_bytes name)) (map string_bytes names)) (all_differ (map string_bytes names))
    (alone name names apart) (differ_from_distinct names rest)

pub sorted_names_differ : (names : Names) → IsStrictlySortedBy string_cmp names → all_differ (map string_bytes names) ≡ true
sorted_names_differ names sorted = differ_from_distinct names (IsDistinct-from_sorted string_cmp names sorted)
