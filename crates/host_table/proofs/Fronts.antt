-- A row that is changed from the front.
use Rattle.std.proofs.Common.{◌≡◌, ℕ, zero, suc, ◌+◌, ◌≤◌, ◌<◌, List, [], ◌∷◌, ◌++◌, map, length, take, drop, set, get_or, None, refl, ap, sym, ◌∙◌, subst, arith, add-one}
use Rattle.host_table.specs.Passes.{Place}
use Rattle.host_table.specs.Rows.{CanSplit}

module _ {A : Type 0} (f : A → A) where
  -- the first n are changed
  abbrev pub front : ℕ → List A → List A
  front n xs = map f (take n xs) ++ drop n xs

  pub front-zero : (xs : List A) → front 0 xs ≡ xs
  front-zero [] = refl
  front-zero (x ∷ xs) = refl

  suc_front : (n : ℕ) (xs : List A) (d : A) → n < length xs → set (front n xs) n (f (get_or xs n d)) ≡ front (suc n) xs
  suc_front n [] d h = absurd (omega arith)
  suc_front zero (x ∷ xs) d h = ap (λ (z : List A). f x ∷ z) (sym (front-zero xs))
  suc_front (suc n) (x ∷ xs) d h = ap (λ (z : List A). f x ∷ z) (suc_front n xs d (omega arith))

  pub front_more : (n : ℕ) (xs : List A) (d : A) → n < length xs → set (front n xs) n (f (get_or xs n d)) ≡ front (n + 1) xs
  front_more n xs d h = suc_front n xs d h ∙ ap (λ (k : ℕ). front k xs) (sym (add-one n))

  pub front_all : (n : ℕ) (xs : List A) → length xs ≤ n → front n xs ≡ map f xs
  front_all zero [] h = refl
  front_all (suc n) [] h = refl
  front_all zero (x ∷ xs) h = absurd (omega arith)
  front_all (suc n) (x ∷ xs) h = ap (λ (z : List A). f x ∷ z) (front_all n xs (omega arith))

  pub front_here : (n : ℕ) (xs : List A) (d : A) → get_or (front n xs) n d ≡ get_or xs n d
  front_here zero [] d = refl
  front_here (suc n) [] d = refl
  front_here zero (x ∷ xs) d = refl
  front_here (suc n) (x ∷ xs) d = front_here n xs d

  pub front-length : (n : ℕ) (xs : List A) → length (front n xs) ≡ length xs
  front-length zero [] = refl
  front-length (suc n) [] = refl
  front-length zero (x ∷ xs) = refl
  front-length (suc n) (x ∷ xs) = ap suc (front-length n xs)

module _ {A B : Type 0} (f : A → B) where
  suc_taken : (n : ℕ) (xs : List A) (d : A) → n < length xs → map f (take n xs) ++ f (get_or xs n d) ∷ [] ≡ map f (take (suc n) xs)
  suc_taken n [] d h = absurd (omega arith)
  suc_taken zero (x ∷ []) d h = refl
  suc_taken zero (x ∷ y ∷ xs) d h = refl
  suc_taken (suc n) (x ∷ xs) d h = ap (λ (z : List B). f x ∷ z) (suc_taken n xs d (omega arith))

  pub taken_more : (n : ℕ) (xs : List A) (d : A) → n < length xs → map f (take n xs) ++ f (get_or xs n d) ∷ [] ≡ map f (take (n + 1) xs)
  taken_more n xs d h = suc_taken n xs d h ∙ ap (λ (k : ℕ). map f (take k xs)) (sym (add-one n))

  pub taken_all : (n : ℕ) (xs : List A) → length xs ≤ n → map f (take n xs) ≡ map f xs
  taken_all zero [] h = refl
  taken_all (suc n) [] h = refl
  taken_all zero (x ∷ xs) h = absurd (omega arith)
  taken_all (suc n) (x ∷ xs) h = ap (λ (z : List B). f x ∷ z) (taken_all n xs (omega arith))

pub can_there : {F : Type 0} (ss : List (Place F)) (k : ℕ) (v : Place F) → CanSplit ss → k < length ss → v ≡ get_or ss k v → (v.taken ≡ None) × (2 ≤ v.weight)
can_there [] k v c h e = absurd (omega arith)
can_there (s ∷ ss) zero v c h e = let P : Place _ → Type 0 = λ z. (z.taken ≡ None) × (2 ≤ z.weight) in subst P (sym e) c.0
can_there (s ∷ ss) (suc k) v c h e = can_there ss k v c.1 (omega arith) e
