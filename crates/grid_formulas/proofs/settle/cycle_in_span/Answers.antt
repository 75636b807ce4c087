use Rattle.std.proofs.Common.{◌≡◌, ◌<◌, false, true, sym, ◌∙◌, ap, arith}
use Rattle.std.specs.BTreeMap.{get}
use Rattle.std.specs.Ordering.{nat_cmp}
use Rattle.grid_formulas.specs.Places.{nth_of}
use Rattle.grid_formulas.specs.Sheets.{is_cycle, values_over}
use Rattle.grid_formulas.proofs.Looks.{any_at, none_more}
use Rattle.grid_formulas.proofs.settle.cycle_in_span.Goals as goal

pub returns-then-is_cycle : goal.returns-then-is_cycle
returns-then-is_cycle c =
    let values = values_over c.args.grid.now (get nat_cmp c.args.nodes.now) (get nat_cmp c.args.after.now) in
    let below : c.cells.n < c.args.span.now.size = omega arith in
    let here : is_cycle (values (nth_of c.args.span.now c.cells.n)) ≡ true =
    ap (λ z. is_cycle (values z)) (sym c.nth.ensures) ∙ ap is_cycle (sym c.value_at.ensures) ∙ sym c.is_cycle.ensures ∙ c.if-is_cycle.true in
    sym (any_at (λ z. is_cycle (values z)) (nth_of c.args.span.now) 0 c.args.span.now.size c.cells.n below (ap (λ z. is_cycle (values (nth_of c.args.span.now z))) (omega arith) ∙ here))

pub cells-preserved : goal.cells-preserved
cells-preserved c =
    let values = values_over c.args.grid.now (get nat_cmp c.args.nodes.now) (get nat_cmp c.args.after.now) in
    let here : is_cycle (values (nth_of c.args.span.now c.cells.n)) ≡ false =
    ap (λ z. is_cycle (values z)) (sym c.nth.ensures) ∙ ap is_cycle (sym c.value_at.ensures) ∙ sym c.is_cycle.ensures ∙ c.if-is_cycle.false in
    none_more (λ z. is_cycle (values z)) (nth_of c.args.span.now) c.cells.n c.cells.invariant here
