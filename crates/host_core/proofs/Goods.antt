-- Lists that are gone through from the front, and the files of a life by their names.
use Rattle.std.proofs.Common.{◌≡◌, ◌≢◌, ◌<◌, ◌≤◌, ◌+◌, ◌-◌, ℕ, zero, suc, Bool, true, false, if◌then◌else◌, List, [], ◌∷◌, ◌++◌, length, map, take, drop, get_or, Option, None, Some, option_map, refl, sym, ap, subst, ◌∙◌, arith, slice_get}
use Rattle.std.proofs.lemmas.List.{take_more, map-append}
use Rattle.std.specs.Prelude.{nat_le}
use Rattle.std.proofs.lemmas.Bool.{leb-false}
use Rattle.std.proofs.lemmas.Slice.Eq.{bytes_eq-Decides}
use Rattle.std.specs.Str.{bytes_eq}
use Rattle.std.specs.List.{AllByRecursion}
use Rattle.host_core.specs.declared.life.LifeFile.{LifeFile}
use Rattle.host_core.specs.Life.{life_names, told_at}
use Rattle.host_core.specs.Names.{AreOnce, place_in}
use Rattle.host_core.specs.Places.{first_of}

-- ---- all of a list

pub all_push : {A : Type 0} (P : A → Type 0) (xs : List A) (x : A) → AllByRecursion P xs → P x → AllByRecursion P (xs ++ x ∷ [])
all_push P [] x all own = (own, tt)
all_push P (y ∷ xs) x all own = (all.0, all_push P xs x all.1 own)

pub all_join : {A : Type 0} (P : A → Type 0) (xs ys : List A) → AllByRecursion P xs → AllByRecursion P ys → AllByRecursion P (xs ++ ys)
all_join P [] ys all more = more
all_join P (x ∷ xs) ys all more = (all.0, all_join P xs ys all.1 more)

pub all_take_more : {A : Type 0} (P : A → Type 0) (xs : List A) (i : ℕ) (x : A) → i < length xs → x ≡ get_or xs i x → AllByRecursion P (take i xs) → P x → AllByRecursion P (take (i + 1) xs)
all_take_more P xs i x lt is all own =
    subst (AllByRecursion P) (sym (take_more xs i x lt ∙ ap (λ y. take i xs ++ y ∷ []) (sym is))) (all_push P (take i xs) x all own)

pub all_at : {A : Type 0} (P : A → Type 0) (xs : List A) (i : ℕ) (x : A) → AllByRecursion P xs → i < length xs → x ≡ get_or xs i x → P x
all_at P [] i x all lt is = absurd (omega (arith, lt))
all_at P (y ∷ xs) zero x all lt is = subst P (sym is) all.0
all_at P (y ∷ xs) (suc i) x all lt is = all_at P xs i x all.1 (omega (arith, lt)) is

pub all_map : {A : Type 0} (P Q : A → Type 0) (xs : List A) → ((x : A) → P x → Q x) → AllByRecursion P xs → AllByRecursion Q xs
all_map P Q [] f all = tt
all_map P Q (x ∷ xs) f all = (f x all.0, all_map P Q xs f all.1)

pub all_through : {A B : Type 0} (P : B → Type 0) (f : A → B) (xs : List A) → AllByRecursion (λ x. P (f x)) xs → AllByRecursion P (map f xs)
all_through P f [] all = tt
all_through P f (x ∷ xs) all = (all.0, all_through P f xs all.1)

-- ---- names that stand there once

pub place_either : (xs ys : List (List ℕ)) (name : List ℕ) → place_in (xs ++ ys) name ≡ None → (place_in xs name ≡ None) × (place_in ys name ≡ None)
place_either [] ys name e = (refl, e)
place_either (x ∷ xs) ys name e = go (bytes_eq x name) (place_in (xs ++ ys) name) (place_in xs name) (place_in ys name) (place_either xs ys name) e where
  go : (b : Bool) (all p q : Option ℕ) → (all ≡ None → (p ≡ None) × (q ≡ None)) → (if b then Some 0 else option_map suc all) ≡ None → ((if b then Some 0 else option_map suc p) ≡ None) × (q ≡ None)
  go true all p q more e = cc
  go false None p q more e = let both = more refl in (ap (option_map suc) both.0, both.1)
  go false (Some n) p q more e = cc

pub place_neither : (xs ys : List (List ℕ)) (name : List ℕ) → place_in xs name ≡ None → place_in ys name ≡ None → place_in (xs ++ ys) name ≡ None
place_neither [] ys name e h = h
place_neither (x ∷ xs) ys name e h = go (bytes_eq x name) (place_in (xs ++ ys) name) (place_in xs name) (λ f. place_neither xs ys name f h) e where
  go : (b : Bool) (all p : Option ℕ) → (p ≡ None → all ≡ None) → (if b then Some 0 else option_map suc p) ≡ None → (if b then Some 0 else option_map suc all) ≡ None
  go true all p more e = cc
  go false all None more e = ap (option_map suc) (more refl)
  go false all (Some n) more e = cc

-- the name in the middle is neither before nor behind
pub once_middle : (xs : List (List ℕ)) (name : List ℕ) (ys : List (List ℕ)) → AreOnce (xs ++ name ∷ ys) → (place_in xs name ≡ None) × (place_in ys name ≡ None)
once_middle [] name ys once = (refl, once.0)
once_middle (x ∷ xs) name ys once =
    let rest = once_middle xs name ys once.1 in
    let here = place_either xs (name ∷ ys) x once.0 in
    (go (bytes_eq x name) refl here.1 rest.0, rest.1)
  where
    differ : (a b : List ℕ) → bytes_eq a b ≡ true → bytes_eq b a ≡ true
    differ a b e = (bytes_eq-Decides b a).1 (sym ((bytes_eq-Decides a b).0 e))

    go : (b : Bool) → bytes_eq x name ≡ b → (if bytes_eq name x then Some 0 else option_map suc (place_in ys x)) ≡ None → place_in xs name ≡ None → (if b then Some 0 else option_map suc (place_in xs name)) ≡ None
    go true at e none = absurd (cc (sym (ap (λ (c : Bool). if c then Some 0 else option_map suc (place_in ys x)) (differ x name at)) ∙ e))
    go false at e none = ap (option_map suc) none

pub once_front : (xs ys : List (List ℕ)) → AreOnce (xs ++ ys) → AreOnce xs
once_front [] ys once = tt
once_front (x ∷ xs) ys once = ((place_either xs ys x once.0).0, once_front xs ys once.1)

-- ---- what is told of a name

pub told_none : (files : List LifeFile) (name : List ℕ) → place_in (life_names files) name ≡ None → told_at files name ≡ None
told_none [] name e = refl
told_none (file ∷ files) name e = go (bytes_eq file.name name) (place_in (life_names files) name) (told_none files name) e where
  go : (b : Bool) (p : Option ℕ) → (p ≡ None → told_at files name ≡ None) → (if b then Some 0 else option_map suc p) ≡ None → (if b then Some file else told_at files name) ≡ None
  go true p more e = cc
  go false None more e = more refl
  go false (Some n) more e = cc

pub told_some : (files : List LifeFile) (name : List ℕ) (n : ℕ) → place_in (life_names files) name ≡ Some n → (file : LifeFile) × (told_at files name ≡ Some file) × (slice_get files n ≡ Some file) × (n < length files)
told_some [] name n e = cc
told_some (file ∷ files) name n e = go (bytes_eq file.name name) (place_in (life_names files) name) n (told_some files name) e where
  go : (b : Bool) (p : Option ℕ) (n : ℕ) → ((m : ℕ) → p ≡ Some m → (one : LifeFile) × (told_at files name ≡ Some one) × (slice_get files m ≡ Some one) × (m < length files))
      → (if b then Some 0 else option_map suc p) ≡ Some n → (one : LifeFile) × ((if b then Some file else told_at files name) ≡ Some one) × (slice_get (file ∷ files) n ≡ Some one) × (n < suc (length files))
  go true p n more e = let is : n ≡ 0 = ap (λ (o : Option ℕ). elim o [ None ↦ 0 | Some m ↦ m ]) (sym e) in
      (file, refl, ap (slice_get (file ∷ files)) is, omega (arith, is))
  go false None n more e = cc
  go false (Some m) n more e =
      let is : n ≡ suc m = ap (λ (o : Option ℕ). elim o [ None ↦ 0 | Some k ↦ k ]) (sym e) in
      let (one, told, there, inside) = more m refl in
      (one, told, ap (slice_get (file ∷ files)) is ∙ there, omega (arith, is, inside))

pub not_enough : (n most : ℕ) → nat_le n most ≡ false → most < n
not_enough n most e = leb-false n most e
