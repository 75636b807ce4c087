use Rattle.std.proofs.Common.{◌<◌, length, sym, ◌∙◌, ap, arith}
use Rattle.std.specs.BTreeMap.{get}
use Rattle.std.specs.Ordering.{nat_cmp}
use Rattle.grid_formulas.specs.Places.{places_of}
use Rattle.grid_formulas.specs.Sheets.{any_cycle, is_cycle, values_over}
use Rattle.grid_formulas.proofs.Looks.{any_in_step}
use Rattle.grid_formulas.proofs.settle.cycle_in_steps.Goals as goal

pub returns-then-cycle_in_span : goal.returns-then-cycle_in_span
returns-then-cycle_in_span c =
    let values = values_over c.args.grid.now (get nat_cmp c.args.nodes.now) (get nat_cmp c.args.after.now) in
    let below : c.steps.step-index < length c.args.steps.now = omega arith in
    sym (any_in_step (λ z. is_cycle (values z)) c.args.steps.now c.steps.step-index _ below
    (ap (λ s. any_cycle values (places_of s)) (sym c.cells.ensures) ∙ sym c.cycle_in_span.ensures ∙ c.if-cycle_in_span.true))
