use Rattle.std.proofs.Common.{◌≡◌, false, true, option_map, sym, ◌∙◌, ap, ◌&&◌}
use Rattle.std.specs.BTreeMap.{get}
use Rattle.std.specs.Ordering.{nat_cmp}
use Rattle.grid_formulas.specs.Places.{text_at}
use Rattle.grid_formulas.specs.Reading.{formula_of, is_formula}
use Rattle.grid_formulas.specs.Sheets.{formula_in, waits}
use Rattle.grid_formulas.proofs.Looks.{and_false, apart_at, looked_quiet, looked_settled, looked_stuck}
use Rattle.grid_formulas.proofs.settle.look_at.Goals as goal

pub returns-then-not-is_formula : goal.returns-then-not-is_formula
returns-then-not-is_formula c =
    let after = get nat_cmp c.args.after.now in
    let no : is_formula (text_at c.args.grid.now c.args.place) ≡ false = ap is_formula (sym c.text_at.ensures) ∙ sym c.is_formula.ensures ∙ c.if-not-is_formula.true in
    looked_quiet c.args.grid.now (get nat_cmp c.args.nodes.now) after c.args.place (ap (λ b. b && waits (after c.args.place)) no)

pub returns-then-not-waits : goal.returns-then-not-waits
returns-then-not-waits c =
    let after = get nat_cmp c.args.after.now in
    let no : waits (after c.args.place) ≡ false = sym c.waits.ensures ∙ c.if-not-waits.true in
    looked_quiet c.args.grid.now (get nat_cmp c.args.nodes.now) after c.args.place
    (ap (λ b. is_formula (text_at c.args.grid.now c.args.place) && b) no ∙ and_false (is_formula (text_at c.args.grid.now c.args.place)))

pub returns-then-reads_cycle : goal.returns-then-reads_cycle
returns-then-reads_cycle c =
    let nodes = get nat_cmp c.args.nodes.now in
    let is : is_formula (text_at c.args.grid.now c.args.place) ≡ true = ap is_formula (sym c.text_at.ensures) ∙ sym c.is_formula.ensures ∙ c.if-not-is_formula.false in
    let known : option_map (λ steps. steps.items) c.in-Some.node.now.formula ≡ formula_of (text_at c.args.grid.now c.args.place) =
    ap formula_in c.in-Some.ensures.value ∙ c.requires.known.known c.args.place is in
    looked_stuck c.args.grid.now nodes (get nat_cmp c.args.after.now) c.args.place _ known (sym c.reads_cycle.ensures ∙ c.if-reads_cycle.true)

pub returns : goal.returns
returns c =
    let nodes = get nat_cmp c.args.nodes.now in
    let is : is_formula (text_at c.args.grid.now c.args.place) ≡ true = ap is_formula (sym c.text_at.ensures) ∙ sym c.is_formula.ensures ∙ c.if-not-is_formula.false in
    let known : option_map (λ steps. steps.items) c.in-Some.node.now.formula ≡ formula_of (text_at c.args.grid.now c.args.place) =
    ap formula_in c.in-Some.ensures.value ∙ c.requires.known.known c.args.place is in
    let updates = c.in_ok-insert.ensures.updates in
    looked_settled c.args.grid.now nodes (get nat_cmp c.args.after.now) (get nat_cmp c.insert.new.self) c.args.place c.in_ok-value.value _ c.requires.grid is
    (sym c.waits.ensures ∙ c.if-not-waits.false) known (sym c.reads_cycle.ensures ∙ c.if-reads_cycle.false) c.in_ok-value.ensures updates.1
    (λ q ne. updates.2 q (apart_at q c.args.place ne))
