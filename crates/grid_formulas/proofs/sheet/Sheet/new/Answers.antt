use Rattle.std.specs.BTreeMap.{get}
use Rattle.std.specs.Ordering.{nat_cmp}
use Rattle.std.proofs.Common.{◌≡◌, ◌∙◌, ℕ, List, ap, sym, subst}
use Rattle.std.specs.Option.{is_some}
use Rattle.grid_sheet.specs.Rows.{Rows}
use Rattle.grid_formulas.specs.Places.{has}
use Rattle.grid_formulas.specs.Sheets.{IsSheet, is_in}
use Rattle.grid_formulas.proofs.Done.{keys_have}
use Rattle.grid_formulas.proofs.Set.{indexed_all, sheet_made}
use Rattle.grid_formulas.proofs.sheet.Sheet.new.Goals as goal

pub invariant_of-result : goal.invariant_of-result
invariant_of-result c =
    let before = get nat_cmp c.gather.new.nodes in
    let nodes = get nat_cmp c.take_over.new.nodes in
    let readers = get nat_cmp c.in_ok-readers.readers in
    let after = get nat_cmp c.in_ok-values.values in
    let formulas = c.deref.result.now in
    let places = c.deref-2.result.now in
    let formula_keys : (q : ℕ) → is_some (before q) ≡ has formulas q = λ q.
    keys_have c.gather.new.nodes q ∙ ap (λ (l : List ℕ). has l q) (sym (c.deref.ensures.value ∙ c.in_ok-formulas.ensures)) in
    let keys : (q : ℕ) → is_in after q ≡ has places q = λ q.
    keys_have c.in_ok-values.values q ∙ ap (λ (l : List ℕ). has l q) (sym (c.deref-2.ensures.value ∙ c.in_ok-places.ensures.keys)) in
    let indexed = indexed_all c.args.grid.now before readers formulas c.in-Ok.ensures.known formula_keys c.in_ok-readers.ensures in
    subst (λ (rows : Rows). IsSheet rows nodes readers c.in-Ok.links) (sym c.in_ok-grid.ensures)
    (sheet_made c.args.grid.now before nodes readers c.in-Ok.links after places c.rows-rows.ensures.form c.in-Ok.ensures.counts c.in-Ok.ensures.few c.in-Ok.ensures.known indexed
    c.in_ok-values.ensures.settled c.in_ok-values.ensures.stuck c.take_over.ensures keys)
