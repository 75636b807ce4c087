use Rattle.std.proofs.Common.{◌-◌, ◌%◌, arith}
use Rattle.grid_formulas.proofs.Indexed.{in_span, le_test}
use Rattle.grid_formulas.proofs.dependents.span_has.Goals as goal
use Rattle.grid_formulas.proofs.dependents.span_has.Goals.{then-span-eq0-via-then-span-eq0, then-span-eq0-via-else-span-eq0+then-place-first, then-span-eq0-via-else-span-eq0+else-place-first+then-last-place}

pub returns-then-span-eq0 : goal.returns-then-span-eq0
returns-then-span-eq0 c h =
    let i = in_span c.args.span.now c.args.place h in
    elim c.then-span-eq0.branch [
      | then-span-eq0-via-then-span-eq0 w ↦ absurd (omega (arith, w.if-span-eq0.true, i.0))
      | then-span-eq0-via-else-span-eq0+then-place-first w ↦ absurd (omega (arith, w.if-place-first.true, i.1))
      | then-span-eq0-via-else-span-eq0+else-place-first+then-last-place w ↦ absurd (omega (arith, w.if-last-place.true, w.last.ensures.value, i.2))
    ]

pub returns : goal.returns
returns c h =
    let i = in_span c.args.span.now c.args.place h in
    le_test ((c.args.place - c.args.span.now.first) % 1024) c.args.span.now.last_column i.3
