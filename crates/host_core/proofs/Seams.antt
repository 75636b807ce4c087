-- Lists that are changed from the front, one after another.
use Rattle.std.proofs.Common.{◌≡◌, ◌<◌, ◌≤◌, ◌+◌, ◌-◌, ℕ, zero, suc, Bool, true, false, List, [], ◌∷◌, ◌++◌, length, map, set, take, drop, get_or, sum_by, Option, None, Some, refl, sym, ap, subst, ◌∙◌, arith, slice_get}
use Rattle.std.proofs.Math.Seq.{get_or-append_seam, set-append_seam}
use Rattle.std.proofs.lemmas.List.{append-nil, drop_all, drop_more, length-append, length-map, length-take-le, map-append, take-append-drop, take_all, take_more}
use Rattle.std.proofs.lemmas.List.Sums.{sum_by-cons, sum_by_push}
use Rattle.kept_locks.specs.Locks.{Standing}
use Rattle.host_core.specs.declared.file.KeptFile.{KeptFile}
use Rattle.host_core.specs.declared.life.Life.{Life}
use Rattle.host_core.specs.declared.life.LifeFile.{LifeFile}
use Rattle.host_core.specs.Going.{ids_told, kept_on, locks_in, uses_of}
use Rattle.host_core.specs.Life.{life_names, told_at}
use Rattle.host_core.specs.Names.{place_in}
use Rattle.host_core.proofs.Goods.{told_some}

pub get_same : {A : Type 0} (xs : List A) (n : ℕ) (x y : A) → n < length xs → x ≡ get_or xs n x → slice_get xs n ≡ Some y → x ≡ y
get_same [] n x y lt is there = absurd (omega (arith, lt))
get_same (z ∷ xs) zero x y lt is there = is ∙ ap (λ (o : Option _). elim o [ None ↦ z | Some w ↦ w ]) there
get_same (z ∷ xs) (suc n) x y lt is there = get_same xs n x y (omega (arith, lt)) is there

-- what is told of a name stands at its place
pub told_found : (files : List LifeFile) (name : List ℕ) (n : ℕ) (file : LifeFile) → place_in (life_names files) name ≡ Some n → file ≡ get_or files n file → told_at files name ≡ Some file
told_found files name n file found is =
    let (one, told, there, inside) = told_some files name n found in
    told ∙ ap (λ (f : LifeFile). Some f) (sym (get_same files n file one inside is there))

-- so many were changed, and then one more
append_more : {A : Type 0} (xs : List A) (x : A) (ys : List A) → (xs ++ x ∷ []) ++ ys ≡ xs ++ x ∷ ys
append_more [] x ys = refl
append_more (z ∷ xs) x ys = ap (λ (l : List _). z ∷ l) (append_more xs x ys)

split_at : {A : Type 0} (f : A → A) (all now : List A) (place : ℕ) (old : A) → place < length all → now ≡ map f (take place all) ++ drop place all
    → now ≡ map f (take place all) ++ get_or all place old ∷ drop (place + 1) all
split_at f all now place old lt so = so ∙ ap (λ (l : List _). map f (take place all) ++ l) (drop_more all place old lt)

front_long : {A : Type 0} (f : A → A) (all : List A) (place : ℕ) → place < length all → length (map f (take place all)) ≡ place
front_long f all place lt = length-map (take place all) f ∙ length-take-le place all (omega (arith, lt))

pub same_at : {A : Type 0} (f : A → A) (all now : List A) (place : ℕ) (old : A) → place < length all → now ≡ map f (take place all) ++ drop place all → old ≡ get_or now place old → old ≡ get_or all place old
same_at f all now place old lt so is =
    let front = map f (take place all) in
    is ∙ ap (λ (l : List _). get_or l place old) (split_at f all now place old lt so)
    ∙ ap (λ (n : ℕ). get_or (front ++ get_or all place old ∷ drop (place + 1) all) n old) (sym (front_long f all place lt))
    ∙ get_or-append_seam front (get_or all place old) (drop (place + 1) all) old

pub changed_at : {A : Type 0} (f : A → A) (all now : List A) (place : ℕ) (old new : A) → place < length all → now ≡ map f (take place all) ++ drop place all → old ≡ get_or now place old → new ≡ f old
    → set now place new ≡ map f (take (place + 1) all) ++ drop (place + 1) all
changed_at f all now place old new lt so is becomes =
    let front = map f (take place all) in
    let back = drop (place + 1) all in
    let at = get_or all place old in
    ap (λ (l : List _). set l place new) (split_at f all now place old lt so)
    ∙ ap (λ (n : ℕ). set (front ++ at ∷ back) n new) (sym (front_long f all place lt))
    ∙ set-append_seam front at back new
    ∙ ap (λ (x : _). front ++ x ∷ back) (becomes ∙ ap f (same_at f all now place old lt so is))
    ∙ sym (append_more front (f at) back)
    ∙ sym (ap (λ (l : List _). l ++ back) (ap (map f) (take_more all place old lt) ∙ map-append f (take place all) (at ∷ [])))

pub so_long : {A : Type 0} (f : A → A) (all now : List A) (place : ℕ) → now ≡ map f (take place all) ++ drop place all → length now ≡ length all
so_long f all now place so =
    ap (λ (l : List _). length l) so ∙ length-append (map f (take place all)) (drop place all) ∙ ap (λ (n : ℕ). n + length (drop place all)) (length-map (take place all) f)
    ∙ sym (length-append (take place all) (drop place all)) ∙ ap (λ (l : List _). length l) (take-append-drop place all)

pub changed_all : {A : Type 0} (f : A → A) (all now : List A) (place : ℕ) → length all ≤ place → now ≡ map f (take place all) ++ drop place all → now ≡ map f all
changed_all f all now place le so =
    so ∙ ap (λ (l : List _). map f (take place all) ++ l) (drop_all place all le) ∙ append-nil (map f (take place all)) ∙ ap (map f) (take_all place all le)

pub mapped_more : {A B : Type 0} (g : A → B) (all : List A) (place : ℕ) (x : A) (held held' : List B) (y : B) → place < length all → x ≡ get_or all place x
    → held ≡ map g (take place all) → held' ≡ held ++ y ∷ [] → y ≡ g x → held' ≡ map g (take (place + 1) all)
mapped_more g all place x held held' y lt is so more one =
    more ∙ ap (λ (l : List _). l ++ y ∷ []) so ∙ ap (λ (z : _). map g (take place all) ++ z ∷ []) one
    ∙ sym (ap (map g) (take_more all place x lt ∙ ap (λ (z : _). take place all ++ z ∷ []) (sym is)) ∙ map-append g (take place all) (x ∷ []))
