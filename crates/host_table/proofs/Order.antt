-- Lists that are in the order of a merge: two with the same members are one.
use Rattle.std.proofs.Common.{◌≡◌, ◌⊎◌, inl, inr, ℕ, zero, suc, ◌<◌, Bool, true, false, cond, List, [], ◌∷◌, ◌++◌, map, length, filter, get_or, refl, ap, sym, subst, ◌∙◌, arith}
use Rattle.std.specs.List.{AllByRecursion, Contains}
use Rattle.wopi_model.specs.Shard.{Entry, RisesFrom, stamps}
use Rattle.wopi_model.specs.Host.{ComesBefore, IsInOrder}

module _ {A : Type 0} where
  -- x is one of the list's
  abbrev pub Has : List A → A → Type 0
  Has [] x = ⊥
  Has (y ∷ ys) x = (y ≡ x) ⊎ Has ys x

  pub has_left : (xs ys : List A) (x : A) → Has xs x → Has (xs ++ ys) x
  has_left [] ys x h = absurd h
  has_left (z ∷ xs) ys x h = elim h as (λ _. Has ((z ∷ xs) ++ ys) x) [ inl e ↦ inl e | inr k ↦ inr (has_left xs ys x k) ]

  pub has_right : (xs ys : List A) (x : A) → Has ys x → Has (xs ++ ys) x
  has_right [] ys x h = h
  has_right (z ∷ xs) ys x h = inr (has_right xs ys x h)

  pub has_either : (xs ys : List A) (x : A) → Has (xs ++ ys) x → Has xs x ⊎ Has ys x
  has_either [] ys x h = inr h
  has_either (z ∷ xs) ys x h = elim h as (λ _. Has (z ∷ xs) x ⊎ Has ys x) [
    | inl e ↦ inl (inl e)
    | inr k ↦ elim (has_either xs ys x k) as (λ _. Has (z ∷ xs) x ⊎ Has ys x) [ inl l ↦ inl (inr l) | inr r ↦ inr r ]
  ]

  pub all_at : (P : A → Type 0) (xs : List A) (x : A) → AllByRecursion P xs → Has xs x → P x
  all_at P [] x a h = absurd h
  all_at P (y ∷ xs) x a h = elim h as (λ _. P x) [ inl e ↦ subst P e a.0 | inr k ↦ all_at P xs x a.1 k ]

  pub all_of : (P : A → Type 0) (xs : List A) → ((x : A) → Has xs x → P x) → AllByRecursion P xs
  all_of P [] f = tt
  all_of P (x ∷ xs) f = (f x (inl refl), all_of P xs (λ y h. f y (inr h)))

  pub has_contained : (xs : List A) (x : A) → Has xs x → Contains xs x
  has_contained [] x h = absurd h
  has_contained (y ∷ xs) x h = elim h as (λ _. Contains (y ∷ xs) x) [
    | inl e ↦ (0, omega arith, e)
    | inr k ↦ let c = has_contained xs x k in (suc c.0, omega (arith, c.1), c.2)
  ]

  contained_at : (xs : List A) (x : A) (k : ℕ) → k < length xs → get_or xs k x ≡ x → Has xs x
  contained_at [] x k h e = absurd (omega arith)
  contained_at (y ∷ xs) x zero h e = inl e
  contained_at (y ∷ xs) x (suc k) h e = inr (contained_at xs x k (omega arith) e)

  pub contained_has : (xs : List A) (x : A) → Contains xs x → Has xs x
  contained_has xs x c = contained_at xs x c.0 c.1 c.2

  pub has_filter : (p : A → Bool) (xs : List A) (x : A) → Has (filter p xs) x → Has xs x × (p x ≡ true)
  has_filter p [] x h = absurd h
  has_filter p (y ∷ xs) x h = go (p y) refl (has_filter p xs x) h where
    go : (b : Bool) → p y ≡ b → (Has (filter p xs) x → Has xs x × (p x ≡ true)) → Has (cond b (y ∷ filter p xs) (filter p xs)) x → Has (y ∷ xs) x × (p x ≡ true)
    go true e rec h = elim h as (λ _. Has (y ∷ xs) x × (p x ≡ true)) [ inl same ↦ (inl same, sym (ap p same) ∙ e) | inr k ↦ let r = rec k in (inr r.0, r.1) ]
    go false e rec h = let r = rec h in (inr r.0, r.1)

  pub filter_has : (p : A → Bool) (xs : List A) (x : A) → Has xs x → p x ≡ true → Has (filter p xs) x
  filter_has p [] x h e = absurd h
  filter_has p (y ∷ xs) x h e = go (p y) refl (λ k. filter_has p xs x k e) h where
    go : (b : Bool) → p y ≡ b → (Has xs x → Has (filter p xs) x) → Has (y ∷ xs) x → Has (cond b (y ∷ filter p xs) (filter p xs)) x
    go true is rec h = elim h as (λ _. Has (y ∷ filter p xs) x) [ inl same ↦ inl same | inr k ↦ inr (rec k) ]
    go false is rec h = elim h as (λ _. Has (filter p xs) x) [ inl same ↦ absurd (cc (is, ap p same, e)) | inr k ↦ rec k ]

  pub filter_none : (p : A → Bool) (xs : List A) → ((x : A) → Has xs x → p x ≡ true → ⊥) → filter p xs ≡ []
  filter_none p [] f = refl
  filter_none p (y ∷ xs) f = go (p y) refl (filter_none p xs (λ x h. f x (inr h))) where
    go : (b : Bool) → p y ≡ b → filter p xs ≡ [] → cond b (y ∷ filter p xs) (filter p xs) ≡ []
    go true e rest = absurd (f y (inl refl) e)
    go false e rest = rest

module _ {A B : Type 0} (f : A → B) where
  pub has_map : (xs : List A) (x : A) → Has xs x → Has (map f xs) (f x)
  has_map [] x h = absurd h
  has_map (y ∷ xs) x h = elim h as (λ _. Has (map f (y ∷ xs)) (f x)) [ inl e ↦ inl (ap f e) | inr k ↦ inr (has_map xs x k) ]

  pub map_has : (xs : List A) (y : B) → Has (map f xs) y → (x : A) × Has xs x × (f x ≡ y)
  map_has [] y h = absurd h
  map_has (z ∷ xs) y h = elim h as (λ _. (x : A) × Has (z ∷ xs) x × (f x ≡ y)) [ inl e ↦ (z, inl refl, e) | inr k ↦ let r = map_has xs y k in (r.0, inr r.1, r.2) ]

  -- to filter by what a function gives is to filter what it gave
  pub filter_map_is : (p : B → Bool) (xs : List A) → filter p (map f xs) ≡ map f (filter (λ x. p (f x)) xs)
  filter_map_is p [] = refl
  filter_map_is p (x ∷ xs) = go (p (f x)) (filter_map_is p xs) where
    go : (b : Bool) → filter p (map f xs) ≡ map f (filter (λ z. p (f z)) xs) → cond b (f x ∷ filter p (map f xs)) (filter p (map f xs)) ≡ map f (cond b (x ∷ filter (λ z. p (f z)) xs) (filter (λ z. p (f z)) xs))
    go true rest = ap (λ (z : List B). f x ∷ z) rest
    go false rest = rest

never_self : (e : Entry) → ComesBefore e e → ⊥
never_self e h = elim h as (λ _. ⊥) [ inl l ↦ omega (arith, l) | inr r ↦ omega (arith, r.1) ]

never_both : (a b : Entry) → ComesBefore a b → ComesBefore b a → ⊥
never_both a b h k = elim h as (λ _. ⊥) [
  | inl l ↦ elim k as (λ _. ⊥) [ inl m ↦ omega (arith, l, m) | inr s ↦ omega (arith, l, s.0) ]
  | inr r ↦ elim k as (λ _. ⊥) [ inl m ↦ omega (arith, m, r.0) | inr s ↦ omega (arith, r.1, s.1) ]
]

module _ {A : Type 0} (entry : A → Entry) where
  abbrev pub AreOrdered : List A → Type 0
  AreOrdered xs = IsInOrder (map entry xs)

  before_has : (e : Entry) (xs : List A) (x : A) → AllByRecursion (ComesBefore e) (map entry xs) → Has xs x → ComesBefore e (entry x)
  before_has e [] x a h = absurd h
  before_has e (y ∷ xs) x a h = elim h as (λ _. ComesBefore e (entry x)) [ inl same ↦ subst (λ (z : A). ComesBefore e (entry z)) same a.0 | inr k ↦ before_has e xs x a.1 k ]

  all_filter : (P : Entry → Type 0) (p : A → Bool) (xs : List A) → AllByRecursion P (map entry xs) → AllByRecursion P (map entry (filter p xs))
  all_filter P p [] a = tt
  all_filter P p (x ∷ xs) a = elim (p x) as (λ b. AllByRecursion P (map entry (cond b (x ∷ filter p xs) (filter p xs)))) [ true ↦ (a.0, all_filter P p xs a.1) | false ↦ all_filter P p xs a.1 ]

  pub ordered_filter : (p : A → Bool) (xs : List A) → AreOrdered xs → AreOrdered (filter p xs)
  ordered_filter p [] o = tt
  ordered_filter p (x ∷ xs) o = elim (p x) as (λ b. AreOrdered (cond b (x ∷ filter p xs) (filter p xs))) [ true ↦ (all_filter (ComesBefore (entry x)) p xs o.0, ordered_filter p xs o.1) | false ↦ ordered_filter p xs o.1 ]

  heads : (x y : A) (xs ys : List A) → AreOrdered (x ∷ xs) → AreOrdered (y ∷ ys) → Has (y ∷ ys) x → Has (x ∷ xs) y → x ≡ y
  heads x y xs ys o p h k = elim h as (λ _. x ≡ y) [
    | inl e ↦ sym e
    | inr i ↦ elim k as (λ _. x ≡ y) [ inl e ↦ e | inr j ↦ absurd (never_both (entry y) (entry x) (before_has (entry y) ys x p.0 i) (before_has (entry x) xs y o.0 j)) ]
  ]

  tail_has : (x y z : A) (xs ys : List A) → AreOrdered (x ∷ xs) → x ≡ y → Has xs z → Has (y ∷ ys) z → Has ys z
  tail_has x y z xs ys o same h k = elim k as (λ _. Has ys z) [
    | inl e ↦ let again : z ≡ x = sym (same ∙ e) in absurd (never_self (entry x) (subst (λ (w : A). ComesBefore (entry x) (entry w)) again (before_has (entry x) xs z o.0 h)))
    | inr j ↦ j
  ]

  -- two ordered lists with the same members are one
  pub one_order : (xs ys : List A) → AreOrdered xs → AreOrdered ys → ((x : A) → Has xs x → Has ys x) → ((x : A) → Has ys x → Has xs x) → xs ≡ ys
  one_order [] [] o p f g = refl
  one_order [] (y ∷ ys) o p f g = absurd (g y (inl refl))
  one_order (x ∷ xs) [] o p f g = absurd (f x (inl refl))
  one_order (x ∷ xs) (y ∷ ys) o p f g =
      let same : x ≡ y = heads x y xs ys o p (f x (inl refl)) (g y (inl refl)) in
      let rest : xs ≡ ys = one_order xs ys o.1 p.1 (λ z h. tail_has x y z xs ys o same h (f z (inr h))) (λ z h. tail_has y x z ys xs p (sym same) h (g z (inr h))) in
      λ i. same i ∷ rest i

all_above : (low : ℕ) (es : List Entry) → RisesFrom low (stamps es) → AllByRecursion (λ e. low < e.stamp) es
all_above low [] r = tt
all_above low (e ∷ es) r = (r.0, weaker low e.stamp es r.0 (all_above e.stamp es r.1)) where
  weaker : (low high : ℕ) (es : List Entry) → low < high → AllByRecursion (λ e. high < e.stamp) es → AllByRecursion (λ e. low < e.stamp) es
  weaker low high [] l a = tt
  weaker low high (e ∷ es) l a = (omega (arith, a.0), weaker low high es l a.1)

-- rising stamps are in order
pub rises_ordered : (low : ℕ) (es : List Entry) → RisesFrom low (stamps es) → IsInOrder es
rises_ordered low [] r = tt
rises_ordered low (e ∷ es) r = (before e es (all_above e.stamp es r.1), rises_ordered e.stamp es r.1) where
  before : (e : Entry) (es : List Entry) → AllByRecursion (λ f. e.stamp < f.stamp) es → AllByRecursion (ComesBefore e) es
  before e [] a = tt
  before e (f ∷ es) a = (inl a.0, before e es a.1)
