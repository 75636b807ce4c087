-- The files of all shards, sorted by their names.
use Rattle.std.proofs.Common.{◌≡◌, ◌≢◌, ℕ, suc, zero, ◌+◌, ◌≤◌, ◌<◌, Bool, true, false, List, [], ◌∷◌, ◌++◌, length, get_or, map, take, drop, append-nil, refl, sym, ap, subst, ◌∙◌, arith}
use Rattle.std.specs.Prelude.{flat_map}
use Rattle.std.specs.Bool.{⊤}
use Rattle.std.specs.List.{All, AllByRecursion, Contains, IsDistinct}
use Rattle.std.specs.List.Sorted.{IsPermutation, IsSortedBy, IsStrictlySortedBy}
use Rattle.std.specs.Ordering.{eq_by_cmp, is_lt, ordering_reverse}
use Rattle.std.specs.declared.cmp.Ordering.{Ordering}
use Rattle.std.specs.declared.cmp.Ordering.TheVariants.{Less, Equal, Greater}
use Rattle.std.specs.Cmp.{IsTotalOrder, eq_by_cmp_equiv}
use Rattle.std.proofs.lemmas.Cmp.{nat_list_cmp_total}
use Rattle.std.proofs.lemmas.List.{drop_all, map-append, take_all}
use Rattle.std.proofs.lemmas.List.Elements.{recursion_from_All}
use Rattle.std.proofs.lemmas.List.Concat.{flat_map-cons}
use Rattle.std.proofs.lemmas.List.MinMax.{ranks_by}
use Rattle.std.proofs.lemmas.List.Sorted.{Contains-permutation, IsPermutation-map, IsPermutation-sym, sorted_far}
use Rattle.std.proofs.lemmas.Map.Lookups.{exact_bytes}
use Rattle.std.proofs.lemmas.Map.Views.{tells_apart}
use Rattle.std.proofs.lemmas.Map.Keys.{IsDistinct-IsPermutation, IsDistinct-from_sorted, IsDistinct-head, IsDistinct-tail}
use Rattle.host_core.specs.Caller.{Sight}
use Rattle.host_core.specs.Children.{child_names}
use Rattle.host_core.specs.Listing.{AreListed, Lists}
use Rattle.host_core.specs.declared.children.Child.{Child}
use Rattle.host_core.specs.declared.listing.Listing.{Listing}
use Rattle.containers.specs.Listed.{AreMerged, all_children}
use Rattle.containers.specs.Names.{AreNamedApart, by_bytes, is_before}

abbrev same : List ℕ → List ℕ → Bool
same = eq_by_cmp by_bytes

-- ---- sorted, and no two of one name

turned : (r : Ordering) → is_lt r ≡ false → ordering_reverse r ≢ Greater
turned Less h = λ _. cc h
turned Equal h = λ e. cc e
turned Greater h = λ e. cc e

less_of : (r : Ordering) → r ≢ Greater → r ≢ Equal → r ≡ Less
less_of Less h k = refl
less_of Equal h k = absurd (k refl)
less_of Greater h k = absurd (h refl)

not_equal : (r : Ordering) → Rattle.std.specs.Ordering.is_eq r ≡ false → r ≢ Equal
not_equal Less h = λ e. cc e
not_equal Equal h = λ _. cc h
not_equal Greater h = λ e. cc e

less : (x y : List ℕ) → is_lt (by_bytes y x) ≡ false → same x y ≡ false → by_bytes x y ≡ Less
less x y h k =
    less_of (by_bytes x y) (λ e. turned (by_bytes y x) h (sym (nat_list_cmp_total.antisymm x y) ∙ e)) (not_equal (by_bytes x y) k)

all_less : (c : Child) (cs : List Child) → AllByRecursion (λ d. is_before d c ≡ false) cs
    → AllByRecursion (λ name. same c.name name ≡ false) (child_names cs) → AllByRecursion (λ name. by_bytes c.name name ≡ Less) (child_names cs)
all_less c [] h k = tt
all_less c (d ∷ cs) h k = (less c.name d.name h.0 k.0, all_less c cs h.1 k.1)

-- none stands before one that is before it in the list
abbrev IsFar : List Child → Type 0
IsFar cs = (i j : ℕ) (d : Child) → i ≤ j → j < length cs → is_before (get_or cs j d) (get_or cs i d) ≡ false

later : (c : Child) (cs : List Child) → IsFar (c ∷ cs) → AllByRecursion (λ d. is_before d c ≡ false) cs
later c cs far = recursion_from_All (λ d. is_before d c ≡ false) cs (λ k d below. far 0 (suc k) d (omega arith) (omega (arith, below)))

strict : (cs : List Child) → IsFar cs → AreNamedApart cs → IsStrictlySortedBy by_bytes (child_names cs)
unfolding IsStrictlySortedBy
strict [] far apart = tt
strict (c ∷ cs) far apart = (
  all_less c cs (later c cs far) (IsDistinct-head same c.name (child_names cs) apart),
  strict cs (λ i j d le below. far (suc i) (suc j) d (omega (arith, le)) (omega (arith, below)))
      (IsDistinct-tail same c.name (child_names cs) apart),
)

flips : (x y : List ℕ) → same x y ≡ same y x
flips = (eq_by_cmp_equiv nat_list_cmp_total).symm

-- what a sort by the names makes of files that are named apart
pub merged : (listings : List Listing) (children : List Child) → AreNamedApart (all_children listings)
    → IsPermutation (all_children listings) children → IsSortedBy is_before children → AreMerged listings children
merged listings children apart moved sorted = record {
  ordered =
      strict children (sorted_far is_before (ranks_by nat_list_cmp_total (λ (c : Child). c.name)) children sorted)
      (IsDistinct-IsPermutation same flips (child_names (all_children listings)) (child_names children)
      (IsPermutation-map (λ (c : Child). c.name) (all_children listings) children moved) apart);
  exact = λ child. (
    Contains-permutation children (all_children listings) child (IsPermutation-sym (all_children listings) children moved),
    Contains-permutation (all_children listings) children child moved,
  );
}

-- all of a list that takes the place of one as long
pub whole : (new old : List Child) (len : ℕ) → length new ≡ len → length old ≡ len → take len (new ++ drop (length new) old) ≡ new
whole new old len is_new is_old =
    ap (λ rest. take len (new ++ rest)) (drop_all (length new) old (omega (arith, is_new, is_old))) ∙ ap (take len) (append-nil new)
    ∙ take_all len new (omega (arith, is_new))

-- ---- the files of different shards have different names

-- the names have their shards from that number on
abbrev StandsFrom : Sight → ℕ → List (List ℕ) → Type 0
StandsFrom sight shard names = AllByRecursion (λ name. shard ≤ sight.home name) names

joined_all : (P : List ℕ → Type 0) (xs ys : List (List ℕ)) → AllByRecursion P xs → AllByRecursion P ys → AllByRecursion P (xs ++ ys)
joined_all P [] ys h k = k
joined_all P (x ∷ xs) ys h k = (h.0, joined_all P xs ys h.1 k)

weaker : (sight : Sight) (shard : ℕ) (names : List (List ℕ)) → StandsFrom sight (shard + 1) names → StandsFrom sight shard names
weaker sight shard [] h = tt
weaker sight shard (name ∷ names) h = let at = h.0 in (omega (arith, at), weaker sight shard names h.1)

at_home : (sight : Sight) (shard : ℕ) (cs : List Child) → AllByRecursion (λ child. sight.home child.name ≡ shard) cs → StandsFrom sight shard (child_names cs)
at_home sight shard [] h = tt
at_home sight shard (c ∷ cs) h = let at = h.0 in (omega (arith, at), at_home sight shard cs h.1)

-- equal names have one shard
other_shard : (sight : Sight) (shard : ℕ) (x y : List ℕ) → sight.home x ≡ shard → shard + 1 ≤ sight.home y → same x y ≡ false
other_shard sight shard x y at beyond =
    elim (same x y) as (λ b. same x y ≡ b → b ≡ false) [
      | true ↦ λ e. let one = tells_apart exact_bytes x y e in let home = ap sight.home one in absurd (omega (arith, at, beyond, home))
      | false ↦ λ _. refl
    ] refl

others : (sight : Sight) (shard : ℕ) (x : List ℕ) (ys : List (List ℕ)) → sight.home x ≡ shard → StandsFrom sight (shard + 1) ys
    → AllByRecursion (λ y. same x y ≡ false) ys
others sight shard x [] at h = tt
others sight shard x (y ∷ ys) at h = (other_shard sight shard x y at h.0, others sight shard x ys at h.1)

-- names of one shard before names of later ones
apart_before : (sight : Sight) (shard : ℕ) (cs : List Child) (ys : List (List ℕ)) → AllByRecursion (λ child. sight.home child.name ≡ shard) cs
    → IsDistinct same (child_names cs) → StandsFrom sight (shard + 1) ys → IsDistinct same ys → IsDistinct same (child_names cs ++ ys)
unfolding IsDistinct
apart_before sight shard [] ys homes own beyond apart = apart
apart_before sight shard (c ∷ cs) ys homes own beyond apart = (
  joined_all (λ y. same c.name y ≡ false) (child_names cs) ys own.0 (others sight shard c.name ys homes.0 beyond),
  apart_before sight shard cs ys homes.1 own.1 beyond apart,
)

abbrev names_in : List Listing → List (List ℕ)
names_in listings = child_names (all_children listings)

split : (listing : Listing) (listings : List Listing) → names_in (listing ∷ listings) ≡ child_names listing.children ++ names_in listings
split listing listings = ap child_names (flat_map-cons (λ (l : Listing). l.children) listing listings) ∙ map-append (λ (c : Child). c.name) listing.children (all_children listings)

from_there : (sight : Sight) (shard : ℕ) (listings : List Listing) → AreListed sight shard listings → StandsFrom sight shard (names_in listings)
from_there sight shard [] h = tt
from_there sight shard (listing ∷ listings) h =
    subst (StandsFrom sight shard) (sym (split listing listings))
    (joined_all (λ name. shard ≤ sight.home name) (child_names listing.children) (names_in listings) (at_home sight shard listing.children h.0.homes)
    (weaker sight shard (names_in listings) (from_there sight (shard + 1) listings h.1)))

pub listed_apart : (sight : Sight) (shard : ℕ) (listings : List Listing) → AreListed sight shard listings → AreNamedApart (all_children listings)
unfolding IsDistinct
listed_apart sight shard [] h = tt
listed_apart sight shard (listing ∷ listings) h =
    subst (IsDistinct same) (sym (split listing listings))
    (apart_before sight shard listing.children (names_in listings) h.0.homes
    (IsDistinct-from_sorted by_bytes (child_names listing.children) h.0.shows.children_are.ordered)
    (from_there sight (shard + 1) listings h.1) (listed_apart sight (shard + 1) listings h.1))
