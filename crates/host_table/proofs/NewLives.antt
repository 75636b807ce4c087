-- The files that a new life begins with are those of its opening.
use Rattle.std.proofs.Common.{◌≡◌, ℕ, Option, List, [], ◌∷◌, map, refl, ap, sym, subst}
use Rattle.std.specs.List.{AllByRecursion}
use Rattle.std.specs.List.Sorted.{IsStrictlySortedBy}
use Rattle.std.specs.Ordering.{nat_cmp}
use Rattle.std.specs.Cmp.Lexicographic.{slice_cmp}
use Rattle.wopi_model.specs.File.{File, opened_with}
use Rattle.wopi_model.specs.Shard.{Opening}
use Rattle.host_core.specs.Opening.{IsByName, MayKeep}
use Rattle.host_table.specs.Passes.{AreByName}

abbrev life_files : ℕ → Opening → List (List ℕ × File)
life_files first opening = map (λ file. (file.0, opened_with first file.1)) opening

life_names : (first : ℕ) (opening : Opening) → map (λ (file : List ℕ × File). file.0) (life_files first opening) ≡ map (λ (file : List ℕ × List ℕ). file.0) opening
life_names first [] = refl
life_names first (file ∷ opening) = ap (λ (names : List (List ℕ)). file.0 ∷ names) (life_names first opening)

pub life_ordered : (first : ℕ) (opening : Opening) → IsByName opening → AreByName (life_files first opening)
life_ordered first opening ordered = subst (IsStrictlySortedBy (slice_cmp nat_cmp)) (sym (life_names first opening)) ordered

pub opening_ordered : (first : ℕ) (opening : Opening) → AreByName (life_files first opening) → IsByName opening
opening_ordered first opening ordered = subst (IsStrictlySortedBy (slice_cmp nat_cmp)) (life_names first opening) ordered

pub life_kept : (only : Option ℕ) (first : ℕ) (opening : Opening) → AllByRecursion (λ (file : List ℕ × List ℕ). MayKeep only file.0) opening → AllByRecursion (λ (file : List ℕ × File). MayKeep only file.0) (life_files first opening)
life_kept only first [] all = tt
life_kept only first (file ∷ opening) all = (all.0, life_kept only first opening all.1)

pub opening_kept : (only : Option ℕ) (first : ℕ) (opening : Opening) → AllByRecursion (λ (file : List ℕ × File). MayKeep only file.0) (life_files first opening) → AllByRecursion (λ (file : List ℕ × List ℕ). MayKeep only file.0) opening
opening_kept only first [] all = tt
opening_kept only first (file ∷ opening) all = (all.0, opening_kept only first opening all.1)
