-- Formulas kept at the nodes of a tree over the places.
use Rattle.std.proofs.Common.{◌≡◌, ℕ, zero, suc, ◌+◌, ◌-◌, ◌*◌, ◌/◌, ◌%◌, ◌<◌, ◌≤◌, Bool, true, false, List, [], ◌∷◌, ◌++◌, length, take, get_or, map, ◌||◌, refl, sym, ◌∙◌, ap, subst, arith, inl, inr, ◌⊎◌, nat_eq, nat_le, OnOk, Ok, Err, Result, zero-add}
use Rattle.std.proofs.lemmas.Bool.{cases_eq, cases_lt}
use Rattle.std.proofs.lemmas.Bool.Decides.{nat_tests}
use Rattle.std.proofs.lemmas.List.{take_more}
use Rattle.std.proofs.lemmas.Grind.{flat_map-append}
use Rattle.std.proofs.Math.Nat.{div-mul-le_self, le_trans, mod-lt}
use Rattle.std.proofs.lemmas.Nat.{le-div}
use Rattle.std.specs.BTreeMap.{is_at}
use Rattle.std.specs.List.{range_with_len}
use Rattle.std.specs.Ordering.{nat_cmp}
use Rattle.grid_formulas.specs.Places.{cells_named, has, nth_of, places_of, reads_of}
use Rattle.grid_formulas.specs.Readers.{AreBelow, Covers, IsBelow, above, last_of}
use Rattle.grid_formulas.specs.declared.formula.Span.{Span}
use Rattle.grid_formulas.specs.declared.formula.Step.{Step}
use Rattle.grid_formulas.proofs.Looks.{has_append, has_last, has_more, place_is, quiet_or}
use Rattle.grid_formulas.proofs.Walks.{true_false}

-- ---- the tree

pub above_mono : (level p q : ℕ) → p ≤ q → above level p ≤ above level q
unfolding above
above_mono zero p q le = omega arith
above_mono (suc level) p q le = let below = above_mono level p q le in omega arith

pub above_zero : (place : ℕ) → 134217728 + place ≡ above 0 place
unfolding above
above_zero place = refl

pub above_next : (level place node : ℕ) → node ≡ above level place → node / 2 ≡ above (suc level) place
unfolding above
above_next level place node e = ap (λ z. z / 2) e

near : (x low high : ℕ) → low ≤ x → x ≤ high → high - low ≤ 1 → (x ≡ low) ⊎ (x ≡ high)
near x low high from to small =
    elim (cases_eq x low) as (λ _. (x ≡ low) ⊎ (x ≡ high)) [ inl same ↦ inl same | inr ne ↦ inr (omega (arith, ne)) ]

pub covers : (first last low high level : ℕ) → low ≡ above level first → high ≡ above level last → high - low ≤ 1 → Covers first last low high
covers first last low high level l h small = (
  level,
  λ q from to.
      let under = above_mono level first q from in
      let over = above_mono level q last to in
      near (above level q) low high (omega (arith, l, under)) (omega (arith, h, over)) small,
)

-- ---- the nodes above the places from the first to the last, level by level

pub first_level : (first last q : ℕ) → first ≤ q → q ≤ last → (134217728 + first ≤ above 0 q) × (above 0 q ≤ 134217728 + last)
first_level first last q from to = let at = above_zero q in (omega (arith, from, at), omega (arith, to, at))

pub next_level : (low high level q : ℕ) (before after : List ℕ) → ((n : ℕ) → has before n ≡ true → has after n ≡ true) → ((n : ℕ) → low ≤ n → n ≤ high → (has after n ≡ true) ⊎ (((low + 1) / 2 ≤ n / 2) × (n / 2 ≤ (high - 1) / 2))) → IsBelow before q ⊎ ((low ≤ above level q) × (above level q ≤ high)) → IsBelow after q ⊎ (((low + 1) / 2 ≤ above (suc level) q) × (above (suc level) q ≤ (high - 1) / 2))
next_level low high level q before after more ends h =
    elim h as (λ _. IsBelow after q ⊎ (((low + 1) / 2 ≤ above (suc level) q) × (above (suc level) q ≤ (high - 1) / 2))) [
      | inl below ↦ inl (below.0, more (above below.0 q) below.1)
      | inr within ↦
          let up : above level q / 2 ≡ above (suc level) q = above_next level q (above level q) refl in
          elim (ends (above level q) within.0 within.1) as (λ _. IsBelow after q ⊎ (((low + 1) / 2 ≤ above (suc level) q) × (above (suc level) q ≤ (high - 1) / 2))) [
            | inl kept ↦ inl (level, kept)
            | inr left ↦ inr (subst (λ z. (low + 1) / 2 ≤ z) up left.0, subst (λ z. z ≤ (high - 1) / 2) up left.1)
          ]
    ]

eq_test : (x y : ℕ) → x ≡ y → nat_eq x y ≡ true
eq_test x y e = grind (arith, nat_tests)

pub last_level : (low high level q : ℕ) (before after : List ℕ) → high ≤ low → ((n : ℕ) → has before n ≡ true → has after n ≡ true) → (nat_eq low high ≡ true → has after low ≡ true) → IsBelow before q ⊎ ((low ≤ above level q) × (above level q ≤ high)) → IsBelow after q
last_level low high level q before after le more here h =
    elim h as (λ _. IsBelow after q) [
      | inl below ↦ (below.0, more (above below.0 q) below.1)
      | inr within ↦
          let same : low ≡ high = omega (arith, within.0, within.1, le) in
          let at : above level q ≡ low = omega (arith, within.0, within.1, le) in
          (level, ap (has after) at ∙ here (eq_test low high same))
    ]

pub next_row : (first last_column row : ℕ) (before after : List ℕ) → ((n : ℕ) → has before n ≡ true → has after n ≡ true) → ((r q : ℕ) → r < row → first + 1024 * r ≤ q → q ≤ first + 1024 * r + last_column → IsBelow before q) → ((q : ℕ) → first + 1024 * row ≤ q → q ≤ first + 1024 * row + last_column → IsBelow after q) → (r q : ℕ) → r < row + 1 → first + 1024 * r ≤ q → q ≤ first + 1024 * r + last_column → IsBelow after q
next_row first last_column row before after more old new r q lt from to =
    elim (cases_lt r row) as (λ _. IsBelow after q) [
      | inl earlier ↦ let below = old r q earlier from to in (below.0, more (above below.0 q) below.1)
      | inr later ↦ let same : r ≡ row = omega (arith, lt, later) in new q (omega (arith, same, from)) (omega (arith, same, to))
    ]

pub on_ok_both : {X E : Type 0} {P Q R : Type 0} (r : Result X E) → (P → Q → R) → OnOk r P → OnOk r Q → OnOk r R
on_ok_both (Ok x) f p q = f p q
on_ok_both (Err e) f p q = tt

-- ---- spans

place_of_range : (g : ℕ → ℕ) (a n q : ℕ) → has (map g (range_with_len a n)) q ≡ true → (k : ℕ) × (k < n) × (g (a + k) ≡ q)
place_of_range g a zero q e = absurd (true_false (sym e))
place_of_range g a (suc n) q e =
    quiet_or (is_at (nat_cmp q) (g a)) ((k : ℕ) × (k < suc n) × (g (a + k) ≡ q))
    (λ no.
    let rest = place_of_range g (a + 1) n q (sym (ap (λ b. b || has (map g (range_with_len (a + 1) n)) q) no) ∙ e) in
    let next : a + suc rest.0 ≡ (a + 1) + rest.0 = omega arith in
    (suc rest.0, omega (arith, rest.1), ap g next ∙ rest.2))
    (λ yes. let here : a + 0 ≡ a = omega arith in (0, omega arith, ap g here ∙ place_is q (g a) yes))

row_within : (size last_column k : ℕ) → k < size → k / (last_column + 1) ≤ (size - 1) / (last_column + 1)
row_within size last_column k lt =
    le-div (k / (last_column + 1)) (size - 1) (last_column + 1) (omega arith) (le_trans (div-mul-le_self k (last_column + 1)) (omega (arith, lt)))

within_span : (first size last_column k : ℕ) → k < size → (first ≤ first + 1024 * (k / (last_column + 1)) + k % (last_column + 1)) × (first + 1024 * (k / (last_column + 1)) + k % (last_column + 1) ≤ first + 1024 * ((size - 1) / (last_column + 1)) + last_column) × ((first + 1024 * (k / (last_column + 1)) + k % (last_column + 1) - first) % 1024 ≤ last_column)
within_span first size last_column k lt =
    let rows = row_within size last_column k lt in
    let column : k % (last_column + 1) < last_column + 1 = mod-lt k (omega arith) in
    (omega arith, omega (arith, rows, column), omega (arith, column))

-- a place of a span lies between its first and its last, in one of its columns
pub in_span : (span : Span) (q : ℕ) → has (places_of span) q ≡ true → (0 < span.size) × (span.first ≤ q) × (q ≤ last_of span) × ((q - span.first) % 1024 ≤ span.last_column)
in_span span q e =
    let at = place_of_range (nth_of span) 0 span.size q e in
    let here : nth_of span at.0 ≡ q = ap (nth_of span) (sym (zero-add at.0)) ∙ at.2 in
    let all = within_span span.first span.size span.last_column at.0 at.1 in
    (omega (arith, at.1), subst (λ z. span.first ≤ z) here all.0, subst (λ z. z ≤ last_of span) here all.1, subst (λ z. (z - span.first) % 1024 ≤ span.last_column) here all.2)

-- a place of a span lies in one of its rows
pub all_rows : (span : Span) (nodes : List ℕ) → ((row q : ℕ) → row < (span.size - 1) / (span.last_column + 1) + 1 → span.first + 1024 * row ≤ q → q ≤ span.first + 1024 * row + span.last_column → IsBelow nodes q) → AreBelow nodes (places_of span)
all_rows span nodes rows q e =
    let at = place_of_range (nth_of span) 0 span.size q e in
    let here : nth_of span at.0 ≡ q = ap (nth_of span) (sym (zero-add at.0)) ∙ at.2 in
    let row = row_within span.size span.last_column at.0 at.1 in
    let column : at.0 % (span.last_column + 1) < span.last_column + 1 = mod-lt at.0 (omega arith) in
    rows (at.0 / (span.last_column + 1)) q (omega (arith, row)) (omega (arith, here)) (omega (arith, here, column))

pub le_test : (x y : ℕ) → x ≤ y → nat_le x y ≡ true
le_test x y le = grind (arith, nat_tests)

pub no_places : (span : Span) (nodes : List ℕ) → span.size ≡ 0 → AreBelow nodes (places_of span)
no_places span nodes e q h = absurd (omega (arith, e, (in_span span q h).0))

pub two_nodes : (span : Span) (nodes : List ℕ) (low high : ℕ) → Covers span.first (last_of span) low high → AreBelow ((nodes ++ low ∷ []) ++ high ∷ []) (places_of span)
two_nodes span nodes low high c q h =
    let i = in_span span q h in
    let both : List ℕ = (nodes ++ low ∷ []) ++ high ∷ [] in (
      c.0,
      elim (c.1 q i.1 i.2) as (λ _. has both (above c.0 q) ≡ true) [
        | inl same ↦ ap (has both) same ∙ has_more (nodes ++ low ∷ []) high low (has_last nodes low)
        | inr same ↦ ap (has both) same ∙ has_last (nodes ++ low ∷ []) high
      ],
    )

pub below_none : (nodes : List ℕ) → AreBelow nodes []
below_none nodes q e = absurd (true_false (sym e))

or_false : (b : Bool) → (b || false) ≡ true → b ≡ true
or_false true e = refl
or_false false e = e

has_nil : (xs : List ℕ) (q : ℕ) → has (xs ++ []) q ≡ true → has xs q ≡ true
has_nil xs q e = or_false (has xs q) (sym (has_append xs [] q) ∙ e)

-- the nodes of one step more
pub below_more : (steps : List Step) (n : ℕ) (d : Step) (before after : List ℕ) → n < length steps → AreBelow before (reads_of (take n steps)) → ((q : ℕ) → has before q ≡ true → has after q ≡ true) → AreBelow after (places_of (cells_named (get_or steps n d))) → AreBelow after (reads_of (take (n + 1) steps))
below_more steps n d before after lt old more new q h =
    let split : reads_of (take (n + 1) steps) ≡ reads_of (take n steps) ++ (places_of (cells_named (get_or steps n d)) ++ []) =
    ap reads_of (take_more steps n d lt) ∙ flat_map-append (λ s. places_of (cells_named s)) (take n steps) (get_or steps n d ∷ []) in
    let here : (has (reads_of (take n steps)) q || has (places_of (cells_named (get_or steps n d)) ++ []) q) ≡ true =
    sym (ap (λ l. has l q) split ∙ has_append (reads_of (take n steps)) (places_of (cells_named (get_or steps n d)) ++ []) q) ∙ h in
    quiet_or (has (reads_of (take n steps)) q) ((level : ℕ) × (has after (above level q) ≡ true))
    (λ no. new q (has_nil (places_of (cells_named (get_or steps n d))) q (sym (ap (λ b. b || has (places_of (cells_named (get_or steps n d)) ++ []) q) no) ∙ here)))
    (λ yes. let o = old q yes in (o.0, more (above o.0 q) o.1))
