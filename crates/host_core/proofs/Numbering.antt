-- Files found by their numbers.
use Rattle.std.proofs.Common.{◌≡◌, ◌<◌, ℕ, zero, suc, Bool, true, false, if◌then◌else◌, List, [], ◌∷◌, ◌++◌, ◌||◌, length, set, get_or, Option, None, Some, option_map, unwrap_or, refl, sym, ap, ◌∙◌, arith}
use Rattle.std.proofs.lemmas.List.{map-append}
use Rattle.std.proofs.lemmas.Slice.Eq.{bytes_eq-Decides}
use Rattle.std.specs.Str.{bytes_eq}
use Rattle.std.specs.List.{list_any}
use Rattle.host_core.specs.Places.{IsFirst}
use Rattle.name_index.specs.Index.{number_of}
use Rattle.host_core.specs.declared.file.KeptFile.{KeptFile}
use Rattle.host_core.specs.Names.{names_of, place_in}
use Rattle.host_core.specs.Files.{is_named}
use Rattle.host_core.specs.Numbers.{named, IsNumbered}
use Rattle.host_core.specs.Whole.{Whole}

pub some_is : (a b : ℕ) → Some a ≡ Some b → a ≡ b
some_is a b e = ap (λ (o : Option ℕ). unwrap_or o a) e

pub some_place : (b : Bool) (p : Option ℕ) (place : ℕ) → (if b then Some 0 else option_map suc p) ≡ Some place → b ≡ false → (q : ℕ) × (p ≡ Some q) × (suc q ≡ place)
some_place true p place e h = absurd (cc)
some_place false None place e h = absurd (cc)
some_place false (Some q) place e h = (q, refl, cc)

-- the place of a name is where its file stands first
pub first_named : (files : List Whole) (name : List ℕ) (place : ℕ) → place_in (names_of files) name ≡ Some place → IsFirst (is_named name) files place
first_named [] name place e = absurd (cc)
first_named (k ∷ files) name place e = go (first_named files name) (bytes_eq k.name name) refl where
  go : ((q : ℕ) → place_in (names_of files) name ≡ Some q → IsFirst (is_named name) files q) → (b : Bool) → bytes_eq k.name name ≡ b → IsFirst (is_named name) (k ∷ files) place
  go rest true h =
      let zero_is : 0 ≡ place = some_is 0 place (sym (ap (λ (b : Bool). if b then Some 0 else option_map suc (place_in (names_of files) name)) h) ∙ e) in
      record { before = []; one = k; after = files; split = refl; long = zero_is; none = refl; here = h }
  go rest false h =
      let (q, there, is) = some_place (bytes_eq k.name name) (place_in (names_of files) name) place e h in
      let first = rest q there in
      record {
        before = k ∷ first.before;
        one = first.one;
        after = first.after;
        split = ap (λ (l : List Whole). k ∷ l) first.split;
        long = let long = first.long in omega (arith, long, is);
        none = ap (λ (b : Bool). b || list_any (is_named name) first.before) h ∙ first.none;
        here = first.here;
      }

below : (xs : List Whole) (x : Whole) (ys : List Whole) → length xs < length (xs ++ x ∷ ys)
below [] x ys = omega arith
below (z ∷ xs) x ys = let more = below xs x ys in omega (arith, more)

pub first_below : (test : Whole → Bool) (files : List Whole) (place : ℕ) → IsFirst test files place → place < length files
first_below test files place first =
    let lt = below first.before first.one first.after in
    let long : length files ≡ length (first.before ++ first.one ∷ first.after) = ap (λ (l : List Whole). length l) first.split in
    let at = first.long in
    omega (arith, lt, long, at)

place_push : (names : List (List ℕ)) (name other : List ℕ) → place_in names name ≡ None
    → place_in (names ++ name ∷ []) other ≡ (if bytes_eq name other then Some (length names) else place_in names other)
place_push [] name other fresh = refl
place_push (first ∷ names) name other fresh =
    let parts = apart (bytes_eq first name) (place_in names name) fresh in
    ap (λ (p : Option ℕ). if bytes_eq first other then Some 0 else option_map suc p) (place_push names name other parts.1)
    ∙ go (bytes_eq first other) (bytes_eq name other) refl refl parts.0 where
      apart : (b : Bool) (p : Option ℕ) → (if b then Some 0 else option_map suc p) ≡ None → (b ≡ false) × (p ≡ None)
      apart true p e = cc
      apart false None e = (refl, refl)
      apart false (Some p) e = cc

      go : (a b : Bool) → bytes_eq first other ≡ a → bytes_eq name other ≡ b → bytes_eq first name ≡ false
          → (if a then Some 0 else option_map suc (if b then Some (length names) else place_in names other)) ≡ (if b then Some (suc (length names)) else if a then Some 0 else option_map suc (place_in names other))
      go true true h k differ =
          let same : first ≡ name = (bytes_eq-Decides first other).0 h ∙ sym ((bytes_eq-Decides name other).0 k) in
          absurd (both (sym ((bytes_eq-Decides first name).1 same) ∙ differ)) where
            both : true ≡ false → ⊥
            both e = cc
      go true false h k differ = refl
      go false true h k differ = refl
      go false false h k differ = refl

-- a name more
pub numbered_push : (old new : List (List ℕ × ℕ)) (names : List (List ℕ)) (name : List ℕ) (number : ℕ) → IsNumbered old names → number_of old name ≡ None → number ≡ length names
    → ((other : List ℕ) → number_of new other ≡ (if bytes_eq name other then Some number else number_of old other)) → IsNumbered new (names ++ name ∷ [])
numbered_push old new names name number numbered fresh at more = λ other.
    more other
    ∙ ap (λ (n : ℕ). if bytes_eq name other then Some n else number_of old other) at
    ∙ ap (λ (p : Option ℕ). if bytes_eq name other then Some (length names) else p) (numbered other)
    ∙ sym (place_push names name other (sym (numbered name) ∙ fresh))

-- a name that was added and taken out
pub numbered_back : (old mid new : List (List ℕ × ℕ)) (names : List (List ℕ)) (name : List ℕ) (number : ℕ) → IsNumbered old names → number_of old name ≡ None
    → ((other : List ℕ) → number_of mid other ≡ (if bytes_eq name other then Some number else number_of old other))
    → ((other : List ℕ) → number_of new other ≡ (if bytes_eq name other then None else number_of mid other)) → IsNumbered new names
numbered_back old mid new names name number numbered fresh more less = λ other.
    less other ∙ ap (λ (p : Option ℕ). if bytes_eq name other then None else p) (more other) ∙ go other (bytes_eq name other) refl ∙ numbered other where
      go : (other : List ℕ) (b : Bool) → bytes_eq name other ≡ b → (if b then None else if b then Some number else number_of old other) ≡ number_of old other
      go other true h = sym (ap (number_of old) (sym ((bytes_eq-Decides name other).0 h)) ∙ fresh)
      go other false h = refl

pub named_push : (files : List KeptFile) (k : KeptFile) → named (files ++ k ∷ []) ≡ named files ++ k.name ∷ []
named_push files k = map-append (λ (f : KeptFile). f.name) files (k ∷ [])

-- a file that keeps its name
pub named_set : (files : List KeptFile) (place : ℕ) (k k' : KeptFile) → k ≡ get_or files place k → k'.name ≡ k.name → named (set files place k') ≡ named files
named_set [] place k k' e same = refl
named_set (first ∷ files) zero k k' e same = ap (λ (n : List ℕ). n ∷ named files) (same ∙ ap (λ (x : KeptFile). x.name) e)
named_set (first ∷ files) (suc place) k k' e same = ap (λ (rest : List (List ℕ)). first.name ∷ rest) (named_set files place k k' e same)
