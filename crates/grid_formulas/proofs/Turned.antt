-- A change of one cell: what it may touch is looked at anew, and all else keeps its value.
use Rattle.std.proofs.Common.{◌≡◌, ◌≢◌, ℕ, ◌<◌, Bool, true, false, List, [], ◌∷◌, Option, Some, None, unwrap_or, cond, ◌||◌, refl, sym, ◌∙◌, ap, subst}
use Rattle.std.proofs.Math.Path.{fun_ext}
use Rattle.std.specs.BTreeMap.{is_at}
use Rattle.std.specs.BTreeSet.{BTreeSet}
use Rattle.std.specs.List.{list_any}
use Rattle.std.specs.Option.{is_some, option_or}
use Rattle.std.specs.Ordering.{nat_cmp}
use Rattle.std.specs.Prelude.{slice_index}
use Rattle.grid_sheet.specs.Rows.{IsGrid, Rows}
use Rattle.grid_formulas.specs.Cells.{most_places, reads, reads_if}
use Rattle.grid_formulas.specs.Marks.{AreMarked, IsClosed, reads_at}
use Rattle.grid_formulas.specs.Numbers.{plain_value}
use Rattle.grid_formulas.specs.Places.{has, text_at}
use Rattle.grid_formulas.specs.Reading.{formula_of, is_formula}
use Rattle.grid_formulas.specs.Sheets.{AreSettled, IsSettled, IsStuckAt, Rests, formula_in, has_cycle, is_cycle, is_in, kept_values, stored, values_over}
use Rattle.grid_formulas.specs.Turns.{IsTurned, IsTurning}
use Rattle.grid_formulas.specs.declared.cells.Node.{Node}
use Rattle.grid_formulas.specs.declared.value.Value.{Value}
use Rattle.grid_formulas.specs.declared.value.Value.TheVariants as value
use Rattle.grid_formulas.proofs.Looks.{or_right, place_index, quiet_or, same_place, value_here, within_grid}
use Rattle.grid_formulas.proofs.Sheeted.{cycle_has}
use Rattle.grid_formulas.proofs.Valued.{carried, carried_stuck}
use Rattle.grid_formulas.proofs.Walks.{true_false}

any_none : (f : ℕ → Bool) (xs : List ℕ) → ((q : ℕ) → f q ≡ true → has xs q ≡ true → ⊥) → list_any f xs ≡ false
any_none f [] h = refl
any_none f (x ∷ xs) h =
    quiet_or (f x) (list_any f (x ∷ xs) ≡ false)
    (λ no. ap (λ b. b || list_any f xs) no ∙ any_none f xs (λ q t e. h q t (or_right (is_at (nat_cmp q) x) (has xs q) e)))
    (λ yes. absurd (h x yes (ap (λ b. b || has xs x) (same_place x))))

below_all : (rows : Rows) → IsGrid rows → (p : ℕ) → is_formula (text_at rows p) ≡ true → p < 102400000
unfolding most_places
below_all rows g p is = within_grid rows g p is

apart : (out : ℕ → Bool) (place q : ℕ) → out place ≡ true → out q ≡ false → q ≢ place
apart out place q inside outside same = true_false (sym inside ∙ ap out (sym same) ∙ outside)

-- a cell that is not marked reads no marked cell
pub reads_unmarked : (old new : Rows) (nodes : ℕ → Option Node) (readers : ℕ → Option (BTreeSet ℕ)) (place : ℕ) (after : ℕ → Option Value) → IsTurning old new nodes readers place → is_in after place ≡ true → IsClosed nodes readers after → (p : ℕ) → is_in after p ≡ false → is_formula (text_at old p) ≡ true → list_any (is_in after) (reads (text_at old p)) ≡ false
unfolding reads
reads_unmarked old new nodes readers place after t here closed p out is =
    let text : text_at new p ≡ text_at old p = t.same p (apart (is_in after) place p here out) in
    let known : formula_in (nodes p) ≡ formula_of (text_at old p) = t.known.known p (ap is_formula text ∙ is) ∙ ap formula_of text in
    any_none (is_in after) (reads_if (formula_of (text_at old p))) (λ q marked named.
    let at = t.indexed p q named in
    let reads_q : reads_at nodes p q ≡ true = ap (λ f. has (reads_if f) q) known ∙ named in
    true_false (sym (closed q marked at.0 p at.1 reads_q (below_all old t.before p is)) ∙ out))

pub out_none : (o : Option Value) → is_some o ≡ false → o ≡ None
out_none None e = refl
out_none (Some v) e = absurd (true_false e)

-- a cell that is not marked keeps its value
pub keeps_value : (old new : Rows) (nodes : ℕ → Option Node) (readers : ℕ → Option (BTreeSet ℕ)) (place : ℕ) (after : ℕ → Option Value) → IsTurning old new nodes readers place → is_in after place ≡ true → (q : ℕ) → is_in after q ≡ false → values_over new nodes after q ≡ stored (text_at old) (kept_values nodes) q
keeps_value old new nodes readers place after t here q out =
    ap (λ o. cond (is_formula (text_at new q)) (unwrap_or (option_or o (kept_values nodes q)) value.Cycle) (plain_value (text_at new q))) (out_none (after q) out)
    ∙ ap (λ text. cond (is_formula text) (unwrap_or (kept_values nodes q) value.Cycle) (plain_value text)) (t.same q (apart (is_in after) place q here out))

-- where the marked cells have Cycle, all is settled that can be told
pub turn_starts : (old new : Rows) (nodes : ℕ → Option Node) (readers : ℕ → Option (BTreeSet ℕ)) (place : ℕ) (after : ℕ → Option Value) (places : List ℕ) → IsTurning old new nodes readers place → AreMarked after places → is_in after place ≡ true → IsClosed nodes readers after → AreSettled (text_at new) (values_over new nodes after)
turn_starts old new nodes readers place after places t m here closed =
    let before : ℕ → Value = stored (text_at old) (kept_values nodes) in
    let now : ℕ → Value = values_over new nodes after in
    let same : (q : ℕ) → is_in after q ≡ false → text_at old q ≡ text_at new q = λ q out. sym (t.same q (apart (is_in after) place q here out)) in
    let keeps : (q : ℕ) → is_in after q ≡ false → before q ≡ now q = λ q out. sym (keeps_value old new nodes readers place after t here q out) in
    record {
      plain = λ p is. ap (λ b. cond b (unwrap_or (option_or (after p) (kept_values nodes p)) value.Cycle) (plain_value (text_at new p))) is;
      settled = λ p is quiet.
          quiet_or (is_in after p) (IsSettled (text_at new) now p)
          (λ out.
          let is_old : is_formula (text_at old p) ≡ true = ap is_formula (same p out) ∙ is in
          carried (text_at old) (text_at new) before now (is_in after) (within_grid new t.grid) same keeps
          (reads_unmarked old new nodes readers place after t here closed) p out is_old
          (t.settled.settled p is_old (ap is_cycle (keeps p out) ∙ quiet)))
          (λ inside. absurd (true_false (sym (ap is_cycle (value_here new nodes after p value.Cycle is (m.cycles p inside))) ∙ quiet)));
    }

-- after looking at the marked cells until nothing moves
pub turn_ends : (old new : Rows) (nodes : ℕ → Option Node) (readers : ℕ → Option (BTreeSet ℕ)) (place : ℕ) (first mid last : ℕ → Option Value) (places : List ℕ) → IsTurning old new nodes readers place → AreMarked first places → is_in first place ≡ true → IsClosed nodes readers first → ((q : ℕ) → is_in mid q ≡ is_in first q) → (AreSettled (text_at new) (values_over new nodes first) → AreSettled (text_at new) (values_over new nodes mid)) → Rests new nodes places mid last → IsTurned new nodes place last
turn_ends old new nodes readers place first mid last places t m here closed keys kept rests =
    let as_first : (q : ℕ) → is_in last q ≡ is_in first q = λ q. rests.keys q ∙ keys q in
    let marked : is_in last place ≡ true = as_first place ∙ here in
    let before : ℕ → Value = stored (text_at old) (kept_values nodes) in
    let now : ℕ → Value = values_over new nodes last in
    let same : (q : ℕ) → is_in last q ≡ false → text_at old q ≡ text_at new q = λ q out. sym (t.same q (apart (is_in last) place q marked out)) in
    let keeps : (q : ℕ) → is_in last q ≡ false → before q ≡ now q = λ q out. sym (keeps_value old new nodes readers place last t marked q out) in
    let shut : (p : ℕ) → is_in last p ≡ false → is_formula (text_at old p) ≡ true → list_any (is_in last) (reads (text_at old p)) ≡ false = λ p out is.
    ap (λ (f : ℕ → Bool). list_any f (reads (text_at old p))) (fun_ext as_first)
    ∙ reads_unmarked old new nodes readers place first t here closed p (sym (as_first p) ∙ out) is in
    record {
      here = marked;
      small = λ q inside.
          let at = place_index places q (m.listed q (sym (as_first q) ∙ inside)) in
          subst (λ z. z < 102400000) at.2 (m.small at.0 at.1);
      settled = rests.kept (kept (turn_starts old new nodes readers place first places t m here closed));
      stuck = λ p is cycle.
          quiet_or (is_in last p) (list_any (λ q. is_cycle (now q)) (reads (text_at new p)) ≡ true)
          (λ out.
          let is_old : is_formula (text_at old p) ≡ true = ap is_formula (same p out) ∙ is in
          carried_stuck (text_at old) (text_at new) before now (is_in last) same keeps shut p out is_old
          (t.stuck p is_old (ap is_cycle (keeps p out) ∙ cycle)))
          (λ inside.
          let at = place_index places p (m.listed p (sym (as_first p) ∙ inside)) in
          let waits : has_cycle (text_at new) last (slice_index places at.0) ≡ true = ap (has_cycle (text_at new) last) at.2 ∙ cycle_has new nodes last p is inside cycle in
          let stuck : IsStuckAt (text_at new) now p = subst (λ z. IsStuckAt (text_at new) now z) at.2 (rests.stuck at.0 at.1 waits) in
          stuck is cycle);
    }
