use Rattle.std.proofs.Common.{◌≡◌, ℕ, ◌+◌, ◌<◌, length, take, min, sym, ◌∙◌, ap, arith}
use Rattle.grid_formulas.specs.Places.{reads_of}
use Rattle.grid_formulas.specs.declared.formula.Span.{Span}
use Rattle.grid_formulas.proofs.Gathered.{reads_more}
use Rattle.grid_formulas.proofs.gather.count_named.Goals as goal

capped_more : (cap v total d : ℕ) → total ≡ min v cap → min (total + d) cap ≡ min (v + d) cap
capped_more cap v total d e = omega arith

pub steps-preserved : goal.steps-preserved
steps-preserved c =
    let below : c.steps.step-index < length c.args.steps.now = omega arith in
    let cap : ℕ = 18446744073709551615 in
    let so_far = length (reads_of (take c.steps.step-index c.args.steps.now)) in
    let size = ap (λ s. min (c.steps.total + s) cap) (ap (λ (s : Span). s.size) c.cells.ensures) in
    c.saturating_add-total.ensures ∙ size ∙ capped_more cap so_far c.steps.total _ c.steps.invariant
    ∙ ap (λ z. min z cap) (sym (reads_more c.args.steps.now c.steps.step-index _ below))
