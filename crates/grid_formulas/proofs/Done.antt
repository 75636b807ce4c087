-- A sheet after all steps of a change, and the places of its values.
use Rattle.std.proofs.Common.{◌≡◌, ◌≢◌, ℕ, ◌≤◌, true, false, List, [], ◌∷◌, Option, Some, cond, ◌||◌, refl, ◌⊎◌}
use Rattle.std.specs.BTreeMap.{BTreeMap, get, is_at, keys}
use Rattle.std.specs.BTreeSet.{BTreeSet}
use Rattle.std.specs.Map.{keys_of, lookup}
use Rattle.std.specs.Option.{is_some}
use Rattle.std.specs.Ordering.{nat_cmp}
use Rattle.grid_sheet.specs.Rows.{Rows}
use Rattle.grid_formulas.specs.Cells.{link_count, reads_if}
use Rattle.grid_formulas.specs.Places.{has, text_at}
use Rattle.grid_formulas.specs.Reading.{formula_of, is_formula}
use Rattle.grid_formulas.specs.Readers.{AreBelow, IsKeptAt, is_kept}
use Rattle.grid_formulas.specs.Sheets.{IsSheet, is_in}
use Rattle.grid_formulas.specs.Turns.{IsTurned, IsTurning}
use Rattle.grid_formulas.specs.declared.cells.Node.{Node}
use Rattle.grid_formulas.specs.declared.formula.Step.{Step}
use Rattle.grid_formulas.specs.declared.value.Value.{Value}
use Rattle.grid_formulas.proofs.Set.{TakesOver, indexed_turned, sheet_alike, sheet_made}

entries_have : {X : Type 0} → (es : List (ℕ × X)) (q : ℕ) → is_some (lookup (is_at (nat_cmp q)) es) ≡ has (keys_of es) q
entries_have [] q = refl
entries_have (e ∷ es) q =
    elim (is_at (nat_cmp q) e.0) as (λ b. is_some (cond b (Some e.1) (lookup (is_at (nat_cmp q)) es)) ≡ (b || has (keys_of es) q))
    [ true ↦ refl | false ↦ entries_have es q ]

-- the keys of a map are where it has a value
pub keys_have : {X : Type 0} → (m : BTreeMap ℕ X) (q : ℕ) → is_some (get nat_cmp m q) ≡ has (keys m) q
keys_have m q = entries_have m.entries q

pub set_done : (old new : Rows) (mid taken nodes : ℕ → Option Node) (grown readers : ℕ → Option (BTreeSet ℕ)) (more place : ℕ) (formula : Option (List Step)) (stays places : List ℕ) (after : ℕ → Option Value) → IsTurning old new mid grown place → IsTurned new mid place after → more ≡ link_count (text_at new) → link_count (text_at new) ≤ 1000000 → formula ≡ formula_of (text_at new place) → AreBelow stays (reads_if formula) → IsKeptAt grown stays place → ((n p : ℕ) → (p ≢ place) ⊎ (has stays n ≡ true) → is_kept grown n p ≡ true → is_kept readers n p ≡ true) → TakesOver mid after places taken → ((q : ℕ) → is_in after q ≡ has places q) → ((q : ℕ) → is_formula (text_at new q) ≡ true → nodes q ≡ taken q) → IsSheet new nodes readers more
set_done old new mid taken nodes grown readers more place formula stays places after t d counts few is below kept left takes keys same =
    let indexed = indexed_turned old new place formula grown readers stays t.same t.indexed is below kept left in
    let made = sheet_made new mid taken readers more after places t.grid counts few t.known indexed d.settled d.stuck takes keys in
    sheet_alike new taken nodes readers readers more made same (λ n p e. e)
