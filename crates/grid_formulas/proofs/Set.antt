-- A sheet after a change of one cell, and a sheet that is made.
use Rattle.std.proofs.Common.{◌≡◌, ◌≢◌, ℕ, ◌+◌, ◌<◌, ◌≤◌, Bool, true, false, List, Option, Some, None, unwrap_or, length, take, cond, ◌||◌, refl, sym, ◌∙◌, ap, subst, arith, inl, inr, ◌⊎◌}
use Rattle.std.proofs.Math.Path.{fun_ext}
use Rattle.std.proofs.lemmas.Bool.{cases_eq}
use Rattle.std.proofs.lemmas.List.Folds.{list_any_more}
use Rattle.std.specs.BTreeMap.{is_at}
use Rattle.std.specs.BTreeSet.{BTreeSet}
use Rattle.std.specs.Ordering.{nat_cmp}
use Rattle.std.specs.Option.{IsSome, is_some, option_or}
use Rattle.std.specs.Prelude.{slice_index}
use Rattle.grid_sheet.specs.Rows.{IsGrid, Rows}
use Rattle.grid_formulas.specs.Cells.{link_count, reads, reads_if}
use Rattle.grid_formulas.specs.Marks.{IsFound}
use Rattle.grid_formulas.specs.Numbers.{plain_value}
use Rattle.grid_formulas.specs.Places.{has, text_at}
use Rattle.grid_formulas.specs.Reading.{formula_of, is_formula}
use Rattle.grid_formulas.specs.Readers.{AreBelow, Grows, IsIndexed, IsKeptAt, above, is_kept}
use Rattle.grid_formulas.specs.Sheets.{AreSettled, AreStuck, IsSheet, KnowsFormulas, formula_in, is_in, kept_value, kept_values, stored, value_in, values_over}
use Rattle.grid_formulas.specs.Turns.{IsTurning, with_value}
use Rattle.grid_formulas.specs.declared.cells.Node.{Node}
use Rattle.grid_formulas.specs.declared.formula.Step.{Step}
use Rattle.grid_formulas.specs.declared.value.Value.{Value}
use Rattle.grid_formulas.specs.declared.value.Value.TheVariants as value
use Rattle.grid_formulas.proofs.Gathered.{no_reads}
use Rattle.grid_formulas.proofs.Looks.{apart_at, or_right, place_index, place_is, quiet_or, same_place}
use Rattle.grid_formulas.proofs.Turned.{out_none}
use Rattle.grid_formulas.proofs.Walks.{true_false}

-- ---- values that are taken over

formula_stays : (o : Option Value) (n : Option Node) → formula_in (with_value o n) ≡ formula_in n
formula_stays None n = refl
formula_stays (Some v) None = refl
formula_stays (Some v) (Some node) = refl

some_stays : (o : Option Value) (n : Option Node) → is_some (with_value o n) ≡ is_some n
some_stays None n = refl
some_stays (Some v) None = refl
some_stays (Some v) (Some node) = refl

value_taken : (o : Option Value) (n : Option Node) → is_some n ≡ true → value_in (with_value o n) ≡ option_or o (value_in n)
value_taken None n e = refl
value_taken (Some v) None e = absurd (true_false (sym e))
value_taken (Some v) (Some node) e = refl

-- each cell that has a new value takes it
abbrev pub TakesOver : (ℕ → Option Node) → (ℕ → Option Value) → List ℕ → (ℕ → Option Node) → Type 0
TakesOver before after places nodes = (q : ℕ) → nodes q ≡ cond (has places q) (with_value (after q) (before q)) (before q)

taken : (before : ℕ → Option Node) (after : ℕ → Option Value) (places : List ℕ) (nodes : ℕ → Option Node) → TakesOver before after places nodes → ((q : ℕ) → is_in after q ≡ has places q) → (q : ℕ) → nodes q ≡ with_value (after q) (before q)
taken before after places nodes t keys q =
    t q
    ∙ quiet_or (has places q) (cond (has places q) (with_value (after q) (before q)) (before q) ≡ with_value (after q) (before q))
    (λ no. ap (λ b. cond b (with_value (after q) (before q)) (before q)) no ∙ sym (ap (λ o. with_value o (before q)) (out_none (after q) (keys q ∙ no))))
    (λ yes. ap (λ b. cond b (with_value (after q) (before q)) (before q)) yes)

twice : (o : Option Value) (n : Option Node) → with_value o (with_value o n) ≡ with_value o n
twice None n = refl
twice (Some v) None = refl
twice (Some v) (Some node) = refl

taken_twice : (b : Bool) (o : Option Value) (n : Option Node) → with_value o (cond b (with_value o n) n) ≡ with_value o n
taken_twice true o n = twice o n
taken_twice false o n = refl

other_way : (q place : ℕ) → is_at (nat_cmp place) q ≡ false → is_at (nat_cmp q) place ≡ false
other_way q place e = apart_at place q (λ at. true_false (sym (ap (λ z. is_at (nat_cmp place) z) (sym at) ∙ same_place place) ∙ e))

or_nothing : (b : Bool) → (b || false) ≡ b
or_nothing true = refl
or_nothing false = refl

-- one cell more
pub takes_more : (first before after : ℕ → Option Node) (values : ℕ → Option Value) (places : List ℕ) (n : ℕ) → n < length places → ((q : ℕ) → before q ≡ cond (has (take n places) q) (with_value (values q) (first q)) (first q)) → ((q : ℕ) → after q ≡ cond (is_at (nat_cmp (slice_index places n)) q) (with_value (values (slice_index places n)) (before q)) (before q)) → (q : ℕ) → after q ≡ cond (has (take (n + 1) places) q) (with_value (values q) (first q)) (first q)
takes_more first before after values places n lt old step q =
    let place = slice_index places n in
    let more : has (take (n + 1) places) q ≡ (has (take n places) q || is_at (nat_cmp q) place) = list_any_more (is_at (nat_cmp q)) places n 0 lt in
    let new : Bool → Option Node = λ b. cond b (with_value (values q) (first q)) (first q) in
    step q ∙ quiet_or (is_at (nat_cmp place) q) (cond (is_at (nat_cmp place) q) (with_value (values place) (before q)) (before q) ≡ new (has (take (n + 1) places) q))
    (λ other.
    ap (λ b. cond b (with_value (values place) (before q)) (before q)) other ∙ old q
    ∙ sym (ap new (more ∙ ap (λ b. has (take n places) q || b) (other_way q place other) ∙ or_nothing (has (take n places) q))))
    (λ here.
    let at : q ≡ place = place_is place q here in
    ap (λ b. cond b (with_value (values place) (before q)) (before q)) here
    ∙ ap (λ z. with_value (values z) (before q)) (sym at)
    ∙ ap (with_value (values q)) (old q)
    ∙ taken_twice (has (take n places) q) (values q) (first q)
    ∙ sym (ap new (more ∙ or_right (has (take n places) q) (is_at (nat_cmp q) place) (ap (λ z. is_at (nat_cmp q) z) (sym at) ∙ same_place q))))

-- what is stored where there is no formula does not matter
stored_same : (text : ℕ → List ℕ) (p : ℕ) (o r : Option Value) → (is_formula (text p) ≡ true → o ≡ r) → cond (is_formula (text p)) (unwrap_or o value.Cycle) (plain_value (text p)) ≡ cond (is_formula (text p)) (unwrap_or r value.Cycle) (plain_value (text p))
stored_same text p o r same =
    quiet_or (is_formula (text p)) (cond (is_formula (text p)) (unwrap_or o value.Cycle) (plain_value (text p)) ≡ cond (is_formula (text p)) (unwrap_or r value.Cycle) (plain_value (text p)))
    (λ no. ap (λ b. cond b (unwrap_or o value.Cycle) (plain_value (text p))) no ∙ sym (ap (λ b. cond b (unwrap_or r value.Cycle) (plain_value (text p))) no))
    (λ yes. ap (λ z. cond (is_formula (text p)) (unwrap_or z value.Cycle) (plain_value (text p))) (same yes))

values_taken : (rows : Rows) (before nodes : ℕ → Option Node) (after : ℕ → Option Value) → KnowsFormulas (text_at rows) before → ((q : ℕ) → nodes q ≡ with_value (after q) (before q)) → (p : ℕ) → values_over rows before after p ≡ stored (text_at rows) (kept_values nodes) p
values_taken rows before nodes after known t p =
    stored_same (text_at rows) p (option_or (after p) (kept_values before p)) (kept_values nodes p)
    (λ is. sym (ap value_in (t p) ∙ value_taken (after p) (before p) (known.there p is)))

-- the values are kept, and all is in place
pub sheet_made : (rows : Rows) (before nodes : ℕ → Option Node) (readers : ℕ → Option (BTreeSet ℕ)) (links : ℕ) (after : ℕ → Option Value) (places : List ℕ) → IsGrid rows → links ≡ link_count (text_at rows) → link_count (text_at rows) ≤ 1000000 → KnowsFormulas (text_at rows) before → IsIndexed (text_at rows) readers → AreSettled (text_at rows) (values_over rows before after) → AreStuck (text_at rows) (values_over rows before after) → TakesOver before after places nodes → ((q : ℕ) → is_in after q ≡ has places q) → IsSheet rows nodes readers links
sheet_made rows before nodes readers links after places g counts few known indexed settled stuck takes keys =
    let t = taken before after places nodes takes keys in
    let same : values_over rows before after ≡ stored (text_at rows) (kept_values nodes) = fun_ext (values_taken rows before nodes after known t) in
    record {
      grid = g;
      counts = counts;
      few = few;
      known = record {
        there = λ p is. ap is_some (t p) ∙ some_stays (after p) (before p) ∙ known.there p is;
        known = λ p is. ap formula_in (t p) ∙ formula_stays (after p) (before p) ∙ known.known p is;
      };
      indexed = indexed;
      settled = subst (λ (v : ℕ → Value). AreSettled (text_at rows) v) same settled;
      stuck = subst (λ (v : ℕ → Value). AreStuck (text_at rows) v) same stuck;
    }

-- ---- the tree of readers

none_in : (xs : List ℕ) (q : ℕ) → length xs ≡ 0 → has xs q ≡ false
none_in xs q e = quiet_or (has xs q) (has xs q ≡ false) (λ no. no) (λ yes. let at = place_index xs q yes in absurd (omega (arith, at.1, e)))

-- where the formula of each cell of a list is kept
pub indexed_all : (rows : Rows) (nodes : ℕ → Option Node) (readers : ℕ → Option (BTreeSet ℕ)) (places : List ℕ) → KnowsFormulas (text_at rows) nodes → ((q : ℕ) → is_some (nodes q) ≡ has places q) → ((k : ℕ) → k < length places → IsFound nodes readers (slice_index places k)) → IsIndexed (text_at rows) readers
unfolding reads
indexed_all rows nodes readers places known keys found p q h =
    quiet_or (is_formula (text_at rows p)) ((level : ℕ) × (is_kept readers (above level q) p ≡ true))
    (λ no. absurd (true_false (sym h ∙ none_in (reads (text_at rows p)) q (no_reads (text_at rows p) no))))
    (λ yes.
    let at = place_index places p (sym (keys p) ∙ known.there p yes) in
    let here : IsFound nodes readers p = subst (λ z. IsFound nodes readers z) at.2 (found at.0 at.1) in
    here q (ap (λ f. has (reads_if f) q) (known.known p yes) ∙ h))

pub found_at : (nodes : ℕ → Option Node) (readers : ℕ → Option (BTreeSet ℕ)) (at : List ℕ) (place : ℕ) → AreBelow at (reads_if (formula_in (nodes place))) → IsKeptAt readers at place → IsFound nodes readers place
found_at nodes readers at place below kept q h = let b = below q h in (b.0, kept (above b.0 q) b.1)

-- the index of the new rows
pub indexed_turned : (old new : Rows) (place : ℕ) (formula : Option (List Step)) (before after : ℕ → Option (BTreeSet ℕ)) (stays : List ℕ) → ((q : ℕ) → q ≢ place → text_at new q ≡ text_at old q) → IsIndexed (text_at old) before → formula ≡ formula_of (text_at new place) → AreBelow stays (reads_if formula) → IsKeptAt before stays place → ((n p : ℕ) → (p ≢ place) ⊎ (has stays n ≡ true) → is_kept before n p ≡ true → is_kept after n p ≡ true) → IsIndexed (text_at new) after
unfolding reads
indexed_turned old new place formula before after stays same indexed is below kept taken p q h =
    elim (cases_eq p place) as (λ _. (level : ℕ) × (is_kept after (above level q) p ≡ true)) [
      | inl at ↦
          let named : has (reads_if formula) q ≡ true = ap (λ f. has (reads_if f) q) is ∙ ap (λ z. has (reads_if (formula_of (text_at new z))) q) (sym at) ∙ h in
          let b = below q named in
          (b.0, ap (is_kept after (above b.0 q)) at ∙ taken (above b.0 q) place (inr b.1) (kept (above b.0 q) b.1))
      | inr ne ↦
          let i = indexed p q (ap (λ text. has (reads_if (formula_of text)) q) (sym (same p ne)) ∙ h) in
          (i.0, taken (above i.0 q) p (inl ne) i.1)
    ]

grown : (text : ℕ → List ℕ) (before after : ℕ → Option (BTreeSet ℕ)) → IsIndexed text before → Grows before after → IsIndexed text after
grown text before after indexed grows p q h = let i = indexed p q h in (i.0, grows (above i.0 q) p i.1)

-- ---- before and behind a change

-- a sheet whose new formula is put at the place, with the value that is kept of the old one
pub turning : (old new : Rows) (before nodes : ℕ → Option Node) (kept readers : ℕ → Option (BTreeSet ℕ)) (links place : ℕ) (node : Node) → IsSheet old before kept links → IsGrid new → place < 102400000 → ((q : ℕ) → q ≢ place → text_at new q ≡ text_at old q) → Grows kept readers → formula_in (Some node) ≡ formula_of (text_at new place) → node.value ≡ kept_value before place → nodes place ≡ Some node → ((q : ℕ) → q ≢ place → nodes q ≡ before q) → IsTurning old new nodes readers place
turning old new before nodes kept readers links place node s g small same grows formula v here apart =
    let values : stored (text_at old) (kept_values before) ≡ stored (text_at old) (kept_values nodes) = fun_ext (λ p.
    elim (cases_eq p place) as (λ _. stored (text_at old) (kept_values before) p ≡ stored (text_at old) (kept_values nodes) p) [
      | inl at ↦
          ap (stored (text_at old) (kept_values before)) at
          ∙ ap (λ w. cond (is_formula (text_at old place)) w (plain_value (text_at old place))) (sym v)
          ∙ ap (λ n. cond (is_formula (text_at old place)) (unwrap_or (value_in n) value.Cycle) (plain_value (text_at old place))) (sym here)
          ∙ ap (stored (text_at old) (kept_values nodes)) (sym at)
      | inr ne ↦ ap (λ n. cond (is_formula (text_at old p)) (unwrap_or (value_in n) value.Cycle) (plain_value (text_at old p))) (sym (apart p ne))
    ]) in
    record {
      before = s.grid;
      grid = g;
      small = small;
      same = same;
      known = record {
        there = λ p is. elim (cases_eq p place) as (λ _. IsSome (nodes p)) [
          | inl at ↦ ap (λ z. is_some (nodes z)) at ∙ ap is_some here
          | inr ne ↦ ap is_some (apart p ne) ∙ s.known.there p (ap is_formula (sym (same p ne)) ∙ is)
        ];
        known = λ p is. elim (cases_eq p place) as (λ _. formula_in (nodes p) ≡ formula_of (text_at new p)) [
          | inl at ↦ ap (λ z. formula_in (nodes z)) at ∙ ap formula_in here ∙ formula ∙ ap (λ z. formula_of (text_at new z)) (sym at)
          | inr ne ↦ ap formula_in (apart p ne) ∙ s.known.known p (ap is_formula (sym (same p ne)) ∙ is) ∙ ap formula_of (sym (same p ne))
        ];
      };
      indexed = grown (text_at old) kept readers s.indexed grows;
      settled = subst (λ (w : ℕ → Value). AreSettled (text_at old) w) values s.settled;
      stuck = subst (λ (w : ℕ → Value). AreStuck (text_at old) w) values s.stuck;
    }

-- what is kept where there is no formula does not matter, nor are more readers in the way
pub sheet_alike : (rows : Rows) (before nodes : ℕ → Option Node) (kept readers : ℕ → Option (BTreeSet ℕ)) (links : ℕ) → IsSheet rows before kept links → ((q : ℕ) → is_formula (text_at rows q) ≡ true → nodes q ≡ before q) → Grows kept readers → IsSheet rows nodes readers links
sheet_alike rows before nodes kept readers links s same grows =
    let values : stored (text_at rows) (kept_values before) ≡ stored (text_at rows) (kept_values nodes) =
    fun_ext (λ p. stored_same (text_at rows) p (kept_values before p) (kept_values nodes p) (λ is. sym (ap value_in (same p is)))) in
    record {
      grid = s.grid;
      counts = s.counts;
      few = s.few;
      known = record {
        there = λ p is. ap is_some (same p is) ∙ s.known.there p is;
        known = λ p is. ap formula_in (same p is) ∙ s.known.known p is;
      };
      indexed = grown (text_at rows) kept readers s.indexed grows;
      settled = subst (λ (w : ℕ → Value). AreSettled (text_at rows) w) values s.settled;
      stuck = subst (λ (w : ℕ → Value). AreStuck (text_at rows) w) values s.stuck;
    }
