-- Walks from cell to cell, and how the values of all cells follow from facts of each.
use Rattle.std.proofs.Common.{◌≡◌, ℕ, zero, suc, ◌+◌, ◌<◌, ◌≤◌, Bool, true, false, List, [], ◌∷◌, cond, ◌&&◌, ◌||◌, refl, sym, ◌∙◌, ap, subst, arith, inl, inr, ◌⊎◌, zero-add}
use Rattle.std.proofs.lemmas.Bool.{cases_lt}
use Rattle.std.specs.List.{list_any}
use Rattle.grid_formulas.specs.Cells.{formula_count, has_walk, most_places, reads, sum_below}
use Rattle.grid_formulas.specs.Reading.{is_formula}

pub true_false : true ≡ false → ⊥
true_false e = cc

-- a number below the next is below, or the same
nat_cases : (x m : ℕ) → x < suc m → (x < m) ⊎ (x ≡ m)
nat_cases x m lt = elim (cases_lt x m) as (λ _. (x < m) ⊎ (x ≡ m)) [ inl below ↦ inl below | inr above ↦ inr (omega arith) ]

pub any_mono : (f g : ℕ → Bool) → ((x : ℕ) → f x ≡ true → g x ≡ true) → (xs : List ℕ) → list_any f xs ≡ true → list_any g xs ≡ true
any_mono f g h [] e = cc
any_mono f g h (x ∷ xs) e =
    let rest = any_mono f g h xs in
    elim (f x) as (λ b. f x ≡ b → (b || list_any f xs) ≡ true → (g x || list_any g xs) ≡ true) [
      | true ↦ λ is _. ap (λ b. b || list_any g xs) (h x is)
      | false ↦ λ _ t. elim (g x) as (λ b. (b || list_any g xs) ≡ true) [ true ↦ refl | false ↦ rest t ]
    ] refl e

-- what no element passes, when each that the list has fails
pub any_false_mono : (f g : ℕ → Bool) → ((x : ℕ) → f x ≡ false → g x ≡ false) → (xs : List ℕ) → list_any f xs ≡ false → list_any g xs ≡ false
any_false_mono f g h [] e = refl
any_false_mono f g h (x ∷ xs) e =
    let rest = any_false_mono f g h xs in
    elim (f x) as (λ b. f x ≡ b → (b || list_any f xs) ≡ false → (g x || list_any g xs) ≡ false) [
      | true ↦ λ _ t. absurd (cc)
      | false ↦ λ is t. ap (λ b. b || list_any g xs) (h x is) ∙ rest t
    ] refl e

-- two tests that agree on the elements
pub any_same : (f g : ℕ → Bool) (out : ℕ → Bool) → ((x : ℕ) → out x ≡ false → f x ≡ g x) → (xs : List ℕ) → list_any out xs ≡ false → list_any f xs ≡ list_any g xs
any_same f g out h [] e = refl
any_same f g out h (x ∷ xs) e =
    let rest = any_same f g out h xs in
    elim (out x) as (λ b. out x ≡ b → (b || list_any out xs) ≡ false → (f x || list_any f xs) ≡ (g x || list_any g xs)) [
      | true ↦ λ _ t. absurd (cc)
      | false ↦ λ is t. ap (λ b. b || list_any f xs) (h x is) ∙ ap (λ b. g x || b) (rest t)
    ] refl e

-- ---- longer walks have shorter ones in front

pub walk_shorter : (text : ℕ → List ℕ) (n p : ℕ) → has_walk text (suc n) p ≡ true → has_walk text n p ≡ true
unfolding has_walk
walk_shorter text zero p e = elim (is_formula (text p)) as (λ b. (b && list_any (λ q. is_formula (text q)) (reads (text p))) ≡ true → b ≡ true) [ true ↦ λ _. refl | false ↦ λ t. t ] e
walk_shorter text (suc n) p e =
    elim (is_formula (text p)) as (λ b. (b && list_any (has_walk text (suc n)) (reads (text p))) ≡ true → (b && list_any (has_walk text n) (reads (text p))) ≡ true)
    [ true ↦ λ t. any_mono (has_walk text (suc n)) (has_walk text n) (walk_shorter text n) (reads (text p)) t | false ↦ λ t. t ] e

pub walk_much_shorter : (text : ℕ → List ℕ) (k n p : ℕ) → has_walk text (k + n) p ≡ true → has_walk text n p ≡ true
walk_much_shorter text zero n p e = subst (λ m. has_walk text m p ≡ true) (zero-add n) e
walk_much_shorter text (suc k) n p e =
    walk_much_shorter text k n p (walk_shorter text (k + n) p (subst (λ m. has_walk text m p ≡ true) (omega arith) e))

-- ---- where walks of one length go on, all do

abbrev pub Settles : (ℕ → List ℕ) → ℕ → Type 0
Settles text n = (p : ℕ) → has_walk text n p ≡ true → has_walk text (suc n) p ≡ true

pub settles_on : (text : ℕ → List ℕ) (n : ℕ) → Settles text n → Settles text (suc n)
unfolding has_walk
settles_on text n s p e =
    elim (is_formula (text p)) as (λ b. (b && list_any (has_walk text n) (reads (text p))) ≡ true → (b && list_any (has_walk text (suc n)) (reads (text p))) ≡ true)
    [ true ↦ λ t. any_mono (has_walk text n) (has_walk text (suc n)) s (reads (text p)) t | false ↦ λ t. t ] e

-- ---- counts

abbrev pub one_if : Bool → ℕ
one_if b = cond b 1 0

pub count_le : (f g : ℕ → Bool) → ((x : ℕ) → f x ≡ true → g x ≡ true) → (m : ℕ) → sum_below (λ x. one_if (f x)) m ≤ sum_below (λ x. one_if (g x)) m
unfolding sum_below
count_le f g h zero = omega arith
count_le f g h (suc m) =
    let before = count_le f g h m in
    let here : one_if (f m) ≤ one_if (g m) =
    elim (f m) as (λ b. f m ≡ b → one_if b ≤ one_if (g m))
    [ true ↦ λ is. subst (λ b. 1 ≤ one_if b) (sym (h m is)) (omega arith) | false ↦ λ _. omega arith ] refl in
    omega arith

-- either fewer pass the first test, or it passes all that the second does
pub count_less : (f g : ℕ → Bool) → ((x : ℕ) → f x ≡ true → g x ≡ true) → (m : ℕ) → (sum_below (λ x. one_if (f x)) m < sum_below (λ x. one_if (g x)) m) ⊎ ((x : ℕ) → x < m → g x ≡ true → f x ≡ true)
unfolding sum_below
count_less f g h zero = inr (λ x lt _. absurd (omega arith))
count_less f g h (suc m) =
    let le = count_le f g h m in
    let P : Type 0 = (sum_below (λ x. one_if (f x)) (suc m) < sum_below (λ x. one_if (g x)) (suc m)) ⊎ ((x : ℕ) → x < suc m → g x ≡ true → f x ≡ true) in
    elim (f m) as (λ b. f m ≡ b → P) [
      | true ↦ λ is. elim (count_less f g h m) as (λ _. P) [
        | inl lt ↦ inl (subst (λ b. sum_below (λ x. one_if (f x)) m + one_if b < sum_below (λ x. one_if (g x)) m + one_if (g m)) (sym is) (subst (λ b. sum_below (λ x. one_if (f x)) m + 1 < sum_below (λ x. one_if (g x)) m + one_if b) (sym (h m is)) (omega arith)))
        | inr all ↦ inr (λ x lt gx. elim (nat_cases x m lt) as (λ _. f x ≡ true) [ inl below ↦ all x below gx | inr same ↦ ap f same ∙ is ])
      ]
      | false ↦ λ is. elim (g m) as (λ b. g m ≡ b → P) [
        | true ↦ λ gs. inl (subst (λ b. sum_below (λ x. one_if (f x)) m + one_if b < sum_below (λ x. one_if (g x)) m + one_if (g m)) (sym is) (subst (λ b. sum_below (λ x. one_if (f x)) m + 0 < sum_below (λ x. one_if (g x)) m + one_if b) (sym gs) (omega arith)))
        | false ↦ λ gs. elim (count_less f g h m) as (λ _. P) [
          | inl lt ↦ inl (subst (λ b. sum_below (λ x. one_if (f x)) m + one_if b < sum_below (λ x. one_if (g x)) m + one_if (g m)) (sym is) (subst (λ b. sum_below (λ x. one_if (f x)) m + 0 < sum_below (λ x. one_if (g x)) m + one_if b) (sym gs) (omega arith)))
          | inr all ↦ inr (λ x lt gx. elim (nat_cases x m lt) as (λ _. f x ≡ true) [ inl below ↦ all x below gx | inr same ↦ absurd (true_false (sym gx ∙ ap g same ∙ gs)) ])
        ]
      ] refl
    ] refl

pub count_none : (f : ℕ → Bool) (m : ℕ) → sum_below (λ x. one_if (f x)) m ≡ 0 → (x : ℕ) → x < m → f x ≡ false
unfolding sum_below
count_none f zero e x lt = absurd (omega arith)
count_none f (suc m) e x lt =
    let before : sum_below (λ x. one_if (f x)) m ≡ 0 = omega arith in
    let here : one_if (f m) ≡ 0 = omega arith in
    elim (nat_cases x m lt) as (λ _. f x ≡ false) [
      | inl below ↦ count_none f m before x below
      | inr same ↦ ap f same ∙ elim (f m) as (λ b. one_if b ≡ 0 → b ≡ false) [ true ↦ λ t. absurd (cc) | false ↦ λ _. refl ] here
    ]

-- ---- after as many steps as there are formulas nothing changes any more

-- all formula cells have places below the bound
abbrev pub Within : (ℕ → List ℕ) → Type 0
Within text = (p : ℕ) → is_formula (text p) ≡ true → p < most_places

pub walk_formula : (text : ℕ → List ℕ) (n p : ℕ) → has_walk text n p ≡ true → is_formula (text p) ≡ true
unfolding has_walk
walk_formula text zero p e = e
walk_formula text (suc n) p e = walk_formula text n p (walk_shorter text n p e)

walk_count : (ℕ → List ℕ) → ℕ → ℕ
walk_count text n = sum_below (λ p. one_if (has_walk text n p)) most_places

narrows : (text : ℕ → List ℕ) → Within text → (n : ℕ) → Settles text n ⊎ (walk_count text (suc n) < walk_count text n)
unfolding walk_count
narrows text within n =
    elim (count_less (has_walk text (suc n)) (has_walk text n) (walk_shorter text n) most_places) as (λ _. Settles text n ⊎ (walk_count text (suc n) < walk_count text n)) [
      | inl less ↦ inr less
      | inr all ↦ inl (λ p e. all p (within p (walk_formula text n p e)) e)
    ]

narrow : (text : ℕ → List ℕ) → Within text → (n : ℕ) → Settles text n ⊎ (walk_count text n + n ≤ walk_count text 0)
narrow text within zero = inr (omega arith)
narrow text within (suc n) =
    elim (narrow text within n) as (λ _. Settles text (suc n) ⊎ (walk_count text (suc n) + suc n ≤ walk_count text 0)) [
      | inl s ↦ inl (settles_on text n s)
      | inr few ↦ elim (narrows text within n) as (λ _. Settles text (suc n) ⊎ (walk_count text (suc n) + suc n ≤ walk_count text 0)) [
        | inl s ↦ inl (settles_on text n s)
        | inr less ↦ inr (omega arith)
      ]
    ]

first_count : (text : ℕ → List ℕ) → walk_count text 0 ≡ formula_count text
unfolding walk_count has_walk
first_count text = refl

pub settled_at_count : (text : ℕ → List ℕ) → Within text → Settles text (formula_count text)
unfolding walk_count
settled_at_count text within =
    elim (narrow text within (formula_count text)) as (λ _. Settles text (formula_count text)) [
      | inl s ↦ s
      | inr few ↦
          let none : walk_count text (formula_count text) ≡ 0 = omega (arith, first_count text) in
          λ p e. absurd (true_false (sym e ∙ count_none (has_walk text (formula_count text)) most_places none p (within p (walk_formula text (formula_count text) p e))))
    ]

settles_far : (text : ℕ → List ℕ) (n k : ℕ) → Settles text n → Settles text (k + n)
settles_far text n zero s = subst (λ m. Settles text m) (sym (zero-add n)) s
settles_far text n (suc k) s = subst (λ m. Settles text m) (omega arith) (settles_on text (k + n) (settles_far text n k s))

walks_far : (text : ℕ → List ℕ) (n k p : ℕ) → Settles text n → has_walk text n p ≡ true → has_walk text (k + n) p ≡ true
walks_far text n zero p s e = subst (λ m. has_walk text m p ≡ true) (sym (zero-add n)) e
walks_far text n (suc k) p s e = subst (λ m. has_walk text m p ≡ true) (omega arith) (settles_far text n k s p (walks_far text n k p s e))

pub endless : (text : ℕ → List ℕ) → Within text → (p : ℕ) → has_walk text (formula_count text) p ≡ true → (m : ℕ) → has_walk text m p ≡ true
endless text within p e m =
    walk_much_shorter text (formula_count text) m p
    (subst (λ k. has_walk text k p ≡ true) (omega arith) (walks_far text (formula_count text) m p (settled_at_count text within) e))

pub walk_ends : (text : ℕ → List ℕ) → Within text → (p m : ℕ) → has_walk text m p ≡ false → has_walk text (formula_count text) p ≡ false
walk_ends text within p m e =
    elim (has_walk text (formula_count text) p) as (λ b. has_walk text (formula_count text) p ≡ b → b ≡ false)
    [ true ↦ λ is. absurd (true_false (sym (endless text within p is m) ∙ e)) | false ↦ λ _. refl ] refl

-- ---- walks that meet no cell of a set don't see what it holds

pub same_walks : (text text' : ℕ → List ℕ) (out : ℕ → Bool) → ((p : ℕ) → out p ≡ false → text p ≡ text' p) → ((p : ℕ) → out p ≡ false → is_formula (text p) ≡ true → list_any out (reads (text p)) ≡ false) → (n p : ℕ) → out p ≡ false → has_walk text n p ≡ has_walk text' n p
unfolding has_walk
same_walks text text' out same closed zero p o = ap is_formula (same p o)
same_walks text text' out same closed (suc n) p o =
    let F : List ℕ → Bool = λ t. is_formula t && list_any (has_walk text' n) (reads t) in
    let inner : (is_formula (text p) && list_any (has_walk text n) (reads (text p))) ≡ F (text p) =
    elim (is_formula (text p)) as (λ b. is_formula (text p) ≡ b → (b && list_any (has_walk text n) (reads (text p))) ≡ (b && list_any (has_walk text' n) (reads (text p)))) [
      | true ↦ λ is. any_same (has_walk text n) (has_walk text' n) out (same_walks text text' out same closed n) (reads (text p)) (closed p o is)
      | false ↦ λ _. refl
    ] refl in
    inner ∙ ap F (same p o)
