-- The cells whose value a change made another, found among the marked ones.
use Rattle.std.proofs.Common.{◌≡◌, ℕ, zero, suc, ◌+◌, ◌<◌, ◌≤◌, Bool, true, false, List, [], ◌∷◌, ◌++◌, Option, length, take, get_or, map, cond, not, ◌||◌, refl, sym, ◌∙◌, ap, arith, inl, inr, Less}
use Rattle.std.proofs.Math.Path.{fun_ext}
use Rattle.std.proofs.lemmas.Bool.{cases_eq, cases_lt}
use Rattle.std.proofs.lemmas.Cmp.{int_eq_equiv}
use Rattle.std.proofs.lemmas.Grind.{common_steps}
use Rattle.std.proofs.lemmas.List.{map-append}
use Rattle.std.proofs.lemmas.List.Elements.{filter_more}
use Rattle.std.proofs.lemmas.Map.Keys.{sorted_head, sorted_tail}
use Rattle.std.specs.BTreeMap.{is_at}
use Rattle.std.specs.BTreeSet.{BTreeSet}
use Rattle.std.specs.List.{AllByRecursion, filter, range_with_len}
use Rattle.std.specs.List.Sorted.{IsStrictlySortedBy}
use Rattle.std.specs.Ordering.{nat_cmp}
use Rattle.grid_sheet.specs.Rows.{Rows}
use Rattle.grid_formulas.specs.Cells.{most_places, value_of}
use Rattle.grid_formulas.specs.Changes.{cell_of, changed_cells, is_changed, same_value}
use Rattle.grid_formulas.specs.Places.{has, text_at}
use Rattle.grid_formulas.specs.Sheets.{is_in, kept_values, stored, values_over}
use Rattle.grid_formulas.specs.Turns.{IsTurned, IsTurning, differs}
use Rattle.grid_formulas.specs.declared.cells.Node.{Node}
use Rattle.grid_formulas.specs.declared.value.Value.{Value}
use Rattle.grid_formulas.specs.declared.value.Value.TheVariants as value
use Rattle.grid_formulas.proofs.Looks.{or_right, place_is, quiet_or, same_place, within_grid}
use Rattle.grid_formulas.proofs.Turned.{keeps_value}
use Rattle.grid_formulas.proofs.Valued.{all_values}
use Rattle.grid_formulas.proofs.Walks.{true_false}

-- ---- one place more

pub listed_more : (test : ℕ → Bool) (places : List ℕ) (n d : ℕ) → n < length places → map cell_of (filter test (take (n + 1) places)) ≡ map cell_of (filter test (take n places)) ++ map cell_of (cond (test (get_or places n d)) (get_or places n d ∷ []) [])
listed_more test places n d lt =
    ap (map cell_of) (filter_more test places n d lt) ∙ map-append cell_of (filter test (take n places)) (cond (test (get_or places n d)) (get_or places n d ∷ []) [])

-- ---- a sorted list that has all that pass a test

less_than : (a b : ℕ) → nat_cmp a b ≡ Less → a < b
less_than a b e = grind (arith, common_steps, e)

not_among : (a : ℕ) (ks : List ℕ) → AllByRecursion (λ y. nat_cmp a y ≡ Less) ks → (b : ℕ) → b ≤ a → has ks b ≡ false
not_among a [] all b le = refl
not_among a (k ∷ ks) all b le =
    quiet_or (is_at (nat_cmp b) k) (has (k ∷ ks) b ≡ false)
    (λ no. ap (λ z. z || has ks b) no ∙ not_among a ks all.1 b le)
    (λ yes. let same = place_is b k yes in let below = less_than a k all.0 in absurd (omega (arith, same, below, le)))

pub filter_range : (test : ℕ → Bool) (n a : ℕ) (ks : List ℕ) → IsStrictlySortedBy nat_cmp ks → ((q : ℕ) → has ks q ≡ true → a ≤ q) → ((q : ℕ) → has ks q ≡ true → q < a + n) → ((q : ℕ) → a ≤ q → test q ≡ true → has ks q ≡ true) → filter test (range_with_len a n) ≡ filter test ks
filter_range test zero a [] sorted from below all = refl
filter_range test zero a (k ∷ ks) sorted from below all =
    let there : has (k ∷ ks) k ≡ true = ap (λ b. b || has ks k) (same_place k) in
    let low = from k there in
    let high = below k there in
    absurd (omega (arith, low, high))
filter_range test (suc n) a [] sorted from below all =
    quiet_or (test a) (filter test (range_with_len a (suc n)) ≡ [])
    (λ no. ap (λ b. cond b (a ∷ filter test (range_with_len (a + 1) n)) (filter test (range_with_len (a + 1) n))) no
    ∙ filter_range test n (a + 1) [] sorted (λ q e. absurd (true_false (sym e))) (λ q e. absurd (true_false (sym e))) (λ q le t. all q (omega (arith, le)) t))
    (λ yes. absurd (true_false (sym (all a (omega arith) yes))))
filter_range test (suc n) a (k ∷ ks) sorted from below all =
    let there : has (k ∷ ks) k ≡ true = ap (λ b. b || has ks k) (same_place k) in
    let later = sorted_head nat_cmp k ks sorted in
    elim (cases_eq k a) as (λ _. filter test (range_with_len a (suc n)) ≡ filter test (k ∷ ks)) [
      | inl same ↦
          ap (λ z. cond (test z) (z ∷ filter test (range_with_len (a + 1) n)) (filter test (range_with_len (a + 1) n))) (sym same)
          ∙ ap (λ l. cond (test k) (k ∷ l) l) (filter_range test n (a + 1) ks (sorted_tail nat_cmp k ks sorted)
          (λ q e. elim (cases_lt a q) as (λ _. a + 1 ≤ q) [
            | inl above ↦ omega (arith, above)
            | inr under ↦ absurd (true_false (sym e ∙ not_among k ks later q (omega (arith, under, same))))
          ])
          (λ q e. let lt = below q (or_right (is_at (nat_cmp q) k) (has ks q) e) in omega (arith, lt))
          (λ q le t.
          quiet_or (is_at (nat_cmp q) k) (has ks q ≡ true)
          (λ no. sym (ap (λ b. b || has ks q) no) ∙ all q (omega (arith, le)) t)
          (λ yes. let at = place_is q k yes in absurd (omega (arith, at, same, le)))))
      | inr ne ↦
          let low = from k there in
          let next : a < k = omega (arith, low, ne) in
          let first_out : has (k ∷ ks) a ≡ false =
          quiet_or (is_at (nat_cmp a) k) (has (k ∷ ks) a ≡ false)
          (λ no. ap (λ b. b || has ks a) no ∙ not_among k ks later a (omega (arith, next)))
          (λ yes. let at = place_is a k yes in absurd (omega (arith, at, next))) in
          let fails : test a ≡ false =
          quiet_or (test a) (test a ≡ false) (λ no. no) (λ yes. absurd (true_false (sym (all a (omega arith) yes) ∙ first_out))) in
          ap (λ b. cond b (a ∷ filter test (range_with_len (a + 1) n)) (filter test (range_with_len (a + 1) n))) fails
          ∙ filter_range test n (a + 1) (k ∷ ks) sorted
          (λ q e.
          quiet_or (is_at (nat_cmp q) k) (a + 1 ≤ q)
          (λ no.
          let inside : has ks q ≡ true = sym (ap (λ b. b || has ks q) no) ∙ e in
          elim (cases_lt k q) as (λ _. a + 1 ≤ q) [
            | inl above ↦ omega (arith, above, next)
            | inr under ↦ absurd (true_false (sym inside ∙ not_among k ks later q (omega (arith, under))))
          ])
          (λ yes. let at = place_is q k yes in omega (arith, at, next)))
          (λ q e. let lt = below q e in omega (arith, lt))
          (λ q le t. all q (omega (arith, le)) t)
    ]

-- ---- values

alike : (v : Value) → same_value v v ≡ true
alike value.Empty = refl
alike value.Text = refl
alike (value.Number z) = int_eq_equiv.refl z
alike value.NameFault = refl
alike value.KindFault = refl
alike value.NumberFault = refl
alike value.Cycle = refl

-- the test that a change makes is that of the definition
tests_same : (old new : Rows) (nodes : ℕ → Option Node) (readers : ℕ → Option (BTreeSet ℕ)) (place : ℕ) (after : ℕ → Option Value) → IsTurning old new nodes readers place → IsTurned new nodes place after → (q : ℕ) → is_changed old new q ≡ differs old new nodes after q
tests_same old new nodes readers place after t d q =
    ap (λ v. not (same_value v (value_of (text_at new) q))) (sym (all_values (text_at old) (stored (text_at old) (kept_values nodes)) (within_grid old t.before) t.settled t.stuck q))
    ∙ ap (λ v. not (same_value (stored (text_at old) (kept_values nodes) q) v)) (sym (all_values (text_at new) (values_over new nodes after) (within_grid new t.grid) d.settled d.stuck q))

pub lists_changes : (old new : Rows) (nodes : ℕ → Option Node) (readers : ℕ → Option (BTreeSet ℕ)) (place : ℕ) (after : ℕ → Option Value) (ks : List ℕ) → IsTurning old new nodes readers place → IsTurned new nodes place after → IsStrictlySortedBy nat_cmp ks → ((q : ℕ) → is_in after q ≡ has ks q) → map cell_of (filter (differs old new nodes after) ks) ≡ changed_cells old new
unfolding most_places
lists_changes old new nodes readers place after ks t d sorted keys =
    let test : ℕ → Bool = differs old new nodes after in
    let inside : (q : ℕ) → test q ≡ true → has ks q ≡ true = λ q e.
    quiet_or (has ks q) (has ks q ≡ true)
    (λ no.
    let out : is_in after q ≡ false = keys q ∙ no in
    absurd (true_false (sym e ∙ ap (λ v. not (same_value (stored (text_at old) (kept_values nodes) q) v)) (keeps_value old new nodes readers place after t d.here q out) ∙ ap not (alike (stored (text_at old) (kept_values nodes) q)))))
    (λ yes. yes) in
    sym (ap (map cell_of) (filter_range test 102400000 0 ks sorted (λ q e. omega arith) (λ q e. d.small q (keys q ∙ e)) (λ q le e. inside q e)))
    ∙ sym (ap (λ f. map cell_of (filter f (range_with_len 0 102400000))) (fun_ext (tests_same old new nodes readers place after t d)))
