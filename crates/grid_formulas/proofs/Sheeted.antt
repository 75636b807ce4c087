-- How a sheet comes to its values.
use Rattle.std.proofs.Common.{◌≡◌, ℕ, ◌+◌, ◌<◌, true, List, Option, Some, None, unwrap_or, length, cond, ◌&&◌, refl, sym, ◌∙◌, ap, subst, arith, inl, inr, ◌≢◌}
use Rattle.std.proofs.lemmas.Bool.{cases_eq, cases_lt}
use Rattle.std.specs.BTreeMap.{BTreeMap, get, keys}
use Rattle.std.specs.Option.{IsSome, is_some, option_or}
use Rattle.std.specs.Ordering.{nat_cmp}
use Rattle.std.specs.Prelude.{slice_index}
use Rattle.std.proofs.lemmas.List.Elements.{at_from_Contains}
use Rattle.std.proofs.lemmas.Cmp.{nat_cmp_total}
use Rattle.std.proofs.lemmas.Map.Lookups.{exact_unsigned}
use Rattle.std.proofs.lemmas.Map.Views.{btree_map_contains_key_iff}
use Rattle.grid_sheet.specs.Rows.{Rows}
use Rattle.grid_formulas.specs.Numbers.{plain_value}
use Rattle.grid_formulas.specs.Places.{text_at}
use Rattle.grid_formulas.specs.Reading.{is_formula}
use Rattle.grid_formulas.specs.Sheets.{AreSettled, AreStuck, IsStuckAt, KnowsFormulas, Rests, StartsOver, has_cycle, is_cycle, is_in, kept_values, values_over, waits}
use Rattle.grid_formulas.specs.declared.cells.Node.{Node}
use Rattle.grid_formulas.specs.declared.value.Value.{Value}
use Rattle.grid_formulas.specs.declared.value.Value.TheVariants as value
use Rattle.grid_formulas.proofs.Looks.{value_here}
use Rattle.grid_formulas.proofs.Walks.{true_false}

-- each formula cell is among the nodes' places
index_of : (nodes : BTreeMap ℕ Node) (p : ℕ) → IsSome (get nat_cmp nodes p) → (k : ℕ) × (k < length (keys nodes)) × (slice_index (keys nodes) k ≡ p)
index_of nodes p some =
    let at = at_from_Contains (keys nodes) p ((btree_map_contains_key_iff nat_cmp_total exact_unsigned nodes p).0 some) in
    (at.0, at.1, at.2 0)

-- where all formula cells have Cycle, all is settled that can be told
pub starts_settled : (rows : Rows) (nodes : BTreeMap ℕ Node) (after : ℕ → Option Value) → KnowsFormulas (text_at rows) (get nat_cmp nodes) → StartsOver (keys nodes) after → AreSettled (text_at rows) (values_over rows (get nat_cmp nodes) after)
starts_settled rows nodes after known starts = record {
  plain = λ p is. ap (λ b. cond b (unwrap_or (option_or (after p) (kept_values (get nat_cmp nodes) p)) value.Cycle) (plain_value (text_at rows p))) is;
  settled = λ p is quiet.
      let at = index_of nodes p (known.there p is) in
      let cycle : after p ≡ Some value.Cycle = ap after (sym at.2) ∙ starts at.0 at.1 in
      absurd (true_false (sym (ap is_cycle (value_here rows (get nat_cmp nodes) after p value.Cycle is cycle)) ∙ quiet));
}

in_some : (o : Option Value) → is_some o ≡ true → (v : Value) × (o ≡ Some v)
in_some None e = absurd (true_false (sym e))
in_some (Some v) e = (v, refl)

-- a formula cell that is looked at anew, and whose value is Cycle
pub cycle_has : (rows : Rows) (nodes : ℕ → Option Node) (after : ℕ → Option Value) (p : ℕ) → is_formula (text_at rows p) ≡ true → is_in after p ≡ true → is_cycle (values_over rows nodes after p) ≡ true → has_cycle (text_at rows) after p ≡ true
cycle_has rows nodes after p is inside cycle =
    let v = in_some (after p) inside in
    ap (λ b. b && waits (after p)) is ∙ ap waits v.1 ∙ ap is_cycle (sym (value_here rows nodes after p v.0 is v.1)) ∙ cycle

pub ends_stuck : (rows : Rows) (nodes : BTreeMap ℕ Node) (first before after : ℕ → Option Value) → KnowsFormulas (text_at rows) (get nat_cmp nodes) → StartsOver (keys nodes) first → ((q : ℕ) → is_in before q ≡ is_in first q) → Rests rows (get nat_cmp nodes) (keys nodes) before after → AreStuck (text_at rows) (values_over rows (get nat_cmp nodes) after)
ends_stuck rows nodes first before after known starts same rests p is cycle =
    let at = index_of nodes p (known.there p is) in
    let inside : is_in after p ≡ true = rests.keys p ∙ same p ∙ ap (is_in first) (sym at.2) ∙ ap is_some (starts at.0 at.1) in
    let here : has_cycle (text_at rows) after (slice_index (keys nodes) at.0) ≡ true =
    ap (has_cycle (text_at rows) after) at.2 ∙ cycle_has rows (get nat_cmp nodes) after p is inside cycle in
    let stuck : IsStuckAt (text_at rows) (values_over rows (get nat_cmp nodes) after) p =
    subst (λ z. IsStuckAt (text_at rows) (values_over rows (get nat_cmp nodes) after) z) at.2 (rests.stuck at.0 at.1 here) in
    stuck is cycle

-- one more place has Cycle
pub starts_more : (places : List ℕ) (n : ℕ) (before after : ℕ → Option Value) → ((k : ℕ) → k < n → before (slice_index places k) ≡ Some value.Cycle) → after (slice_index places n) ≡ Some value.Cycle → ((q : ℕ) → q ≢ slice_index places n → after q ≡ before q) → (k : ℕ) → k < n + 1 → after (slice_index places k) ≡ Some value.Cycle
starts_more places n before after earlier here apart k lt =
    elim (cases_eq (slice_index places k) (slice_index places n)) as (λ _. after (slice_index places k) ≡ Some value.Cycle) [
      | inl same ↦ ap after same ∙ here
      | inr ne ↦
          elim (cases_lt k n) as (λ _. after (slice_index places k) ≡ Some value.Cycle) [
            | inl below ↦ apart (slice_index places k) ne ∙ earlier k below
            | inr above ↦
                let same : k ≡ n = omega arith in
                ap (λ z. after (slice_index places z)) same ∙ here
          ]
    ]
