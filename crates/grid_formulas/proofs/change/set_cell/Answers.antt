use Rattle.std.specs.BTreeMap.{get}
use Rattle.std.specs.BTreeSet.{contains}
use Rattle.std.specs.Ordering.{nat_cmp}
use Rattle.std.proofs.Common.{◌≡◌, ◌≢◌, ◌∙◌, ◌⊎◌, ◌<◌, ◌≤◌, ℕ, List, Option, true, ap, option_map, length, min, sym, subst, inl, inr}
use Rattle.std.proofs.lemmas.Bool.{cases_eq}
use Rattle.std.specs.BTreeMap.{is_at}
use Rattle.std.specs.Map.{lookup}
use Rattle.grid_sheet.specs.Edits.{after_set}
use Rattle.grid_sheet.specs.Rows.{Rows}
use Rattle.grid_formulas.specs.Cells.{link_count, reads, reads_if}
use Rattle.grid_formulas.specs.Places.{has, text_at}
use Rattle.grid_formulas.specs.Readers.{IsKeptAt, is_kept}
use Rattle.grid_formulas.specs.Sheets.{IsSheet, is_in}
use Rattle.grid_formulas.specs.Turns.{IsTurning}
use Rattle.grid_formulas.specs.declared.formula.Step.{Step}
use Rattle.grid_formulas.proofs.Done.{keys_have, set_done}
use Rattle.grid_formulas.proofs.Looks.{apart_at}
use Rattle.grid_formulas.proofs.Set.{sheet_alike, turning}
use Rattle.grid_formulas.proofs.SetTexts.{set_here, set_small, set_there}
use Rattle.grid_formulas.proofs.change.set_cell.Goals as goal

pub links_after-requires-clause-same : goal.links_after-requires-clause-same
links_after-requires-clause-same c q ne =
    set_there c.args.old.now c.args.grid.now c.args.row c.args.column c.requires.set.0 c.requires.set.1 q (λ at. ne (at ∙ sym c.place_of-place.ensures))

pub links_after-requires-clause-named : goal.links_after-requires-clause-named
unfolding reads
links_after-requires-clause-named c =
    c.count_reads-named.ensures ∙ ap (λ f. min (length (reads_if f)) 18446744073709551615) c.in_ok-node.ensures.formula

pub returns-in_err-before-clause-sheet : goal.returns-in_err-before-clause-sheet
returns-in_err-before-clause-sheet c =
    sheet_alike c.args.old.now (get nat_cmp c.args.nodes.now) (get nat_cmp c.insert.new.self) (get nat_cmp c.args.readers.now) (get nat_cmp c.keep_at.new.readers) c.args.links.now c.requires.sheet
    (λ q _. ap (lookup (is_at (nat_cmp q))) c.in_err-before.ensures.err) c.keep_at.ensures.grows

pub turn-requires-clause-turning : goal.turn-requires-clause-turning
turn-requires-clause-turning c =
    let old = c.args.old.now in
    let new = c.args.grid.now in
    let place = c.place_of-place.result in
    let small : place < 102400000 = subst (λ z. z < 102400000) (sym c.place_of-place.ensures) (set_small old new c.args.row c.args.column c.requires.set.0 c.requires.sheet.grid c.requires.set.1) in
    let same : (q : ℕ) → q ≢ place → text_at new q ≡ text_at old q = λ q ne.
    set_there old new c.args.row c.args.column c.requires.set.0 c.requires.set.1 q (λ at. ne (at ∙ sym c.place_of-place.ensures)) in
    let updates = c.in_ok-before.ensures.updates in
    turning old new (get nat_cmp c.args.nodes.now) (get nat_cmp c.insert.new.self) (get nat_cmp c.args.readers.now) (get nat_cmp c.keep_at.new.readers) c.args.links.now place c.in_ok-node.node
    c.requires.sheet c.rows-rows.ensures.form small same c.keep_at.ensures.grows c.in_ok-node.ensures.formula c.in_ok-node.ensures.value updates.1 (λ q ne. updates.2 q (apart_at q place ne))

pub turn-requires-clause-set : goal.turn-requires-clause-set
turn-requires-clause-set c =
    ap (after_set c.args.old.now c.args.row c.args.column)
    (ap (text_at c.args.grid.now) c.place_of-place.ensures ∙ set_here c.args.old.now c.args.grid.now c.args.row c.args.column c.requires.set.0 c.requires.set.1)
    ∙ c.requires.set.1

pub returns-in-Ok-turn-clause-sheet : goal.returns-in-Ok-turn-clause-sheet
returns-in-Ok-turn-clause-sheet c =
    let old = c.args.old.now in
    let new = c.args.grid.now in
    let place = c.place_of-place.result in
    let small : place < 102400000 = subst (λ z. z < 102400000) (sym c.place_of-place.ensures) (set_small old new c.args.row c.args.column c.requires.set.0 c.requires.sheet.grid c.requires.set.1) in
    let same : (q : ℕ) → q ≢ place → text_at new q ≡ text_at old q = λ q ne.
    set_there old new c.args.row c.args.column c.requires.set.0 c.requires.set.1 q (λ at. ne (at ∙ sym c.place_of-place.ensures)) in
    let updates = c.in_ok-before.ensures.updates in
    let mid = get nat_cmp c.insert.new.self in
    let grown = get nat_cmp c.keep_at.new.readers in
    let taken = get nat_cmp c.take_over.new.nodes in
    let nodes = get nat_cmp c.drop_plain.new.nodes in
    let readers = get nat_cmp c.take_from.new.readers in
    let formula : Option (List Step) = option_map (λ steps. steps.items) c.in_ok-node.node.formula in
    let stays = c.in_ok-stays.stays.items in
    let places = c.deref-in-Ok-turn.result.now in
    let after = get nat_cmp c.in-Ok-turn.change.values in
    let t : IsTurning old new mid grown place =
    turning old new (get nat_cmp c.args.nodes.now) mid (get nat_cmp c.args.readers.now) grown c.args.links.now place c.in_ok-node.node
    c.requires.sheet c.rows-rows.ensures.form small same c.keep_at.ensures.grows c.in_ok-node.ensures.formula c.in_ok-node.ensures.value updates.1 (λ q ne. updates.2 q (apart_at q place ne)) in
    let few : link_count (text_at new) ≤ 1000000 = subst (λ z. z ≤ 1000000) c.in-Ok.ensures.counts c.in-Ok.ensures.few in
    let kept : IsKeptAt grown stays place = subst (λ (l : List ℕ). IsKeptAt grown l place) c.deref-2.ensures.value c.in_ok-keep_at.ensures.kept in
    let left : (n p : ℕ) → (p ≢ place) ⊎ (has stays n ≡ true) → is_kept grown n p ≡ true → is_kept readers n p ≡ true = λ n p other.
    c.take_from.ensures n p (elim other as (λ _. (p ≢ place) ⊎ (contains nat_cmp c.in_ok-kept.kept n ≡ true)) [
      | inl ne ↦ inl ne
      | inr there ↦ inr (c.in_ok-kept.ensures n (subst (λ (l : List ℕ). has l n ≡ true) (sym c.deref.ensures.value) there))
    ]) in
    let keys : (q : ℕ) → is_in after q ≡ has places q = λ q.
    keys_have c.in-Ok-turn.change.values q ∙ ap (λ (l : List ℕ). has l q) (sym (c.deref-in-Ok-turn.ensures.value ∙ c.in-Ok-turn.ensures.places)) in
    subst (λ (rows : Rows). IsSheet rows nodes readers c.in-Ok.more) (sym c.in-Ok-turn.ensures.grid)
    (set_done old new mid taken nodes grown readers c.in-Ok.more place formula stays places after t c.in-Ok-turn.ensures.turned c.in-Ok.ensures.counts few c.in_ok-node.ensures.formula
    c.in_ok-stays.ensures kept left c.take_over.ensures keys c.drop_plain.ensures)

pub returns-clause-sheet : goal.returns-clause-sheet
returns-clause-sheet c =
    let before = get nat_cmp c.args.nodes.now in
    let nodes = get nat_cmp c.put_back.new.nodes in
    let grown = get nat_cmp c.keep_at.new.readers in
    let place = c.place_of-place.result in
    let same : (q : ℕ) → nodes q ≡ before q = λ q.
    elim (cases_eq q place) as (λ _. nodes q ≡ before q) [
      | inl at ↦ ap nodes at ∙ c.put_back.ensures.here ∙ c.in_ok-before.ensures.old ∙ ap before (sym at)
      | inr ne ↦ c.put_back.ensures.others q ne ∙ c.in_ok-before.ensures.updates.2 q (apart_at q place ne)
    ] in
    subst (λ (rows : Rows). IsSheet rows nodes grown c.args.links.now) (sym c.in-Err-turn.ensures.kept)
    (sheet_alike c.args.old.now before nodes (get nat_cmp c.args.readers.now) grown c.args.links.now c.requires.sheet (λ q _. same q) c.keep_at.ensures.grows)
