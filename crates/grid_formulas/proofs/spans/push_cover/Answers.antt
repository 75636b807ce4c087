use Rattle.std.proofs.Common.{List, ℕ, sym, subst, ◌∙◌, ap, ◌++◌, ◌∷◌, []}
use Rattle.grid_formulas.specs.Places.{places_of}
use Rattle.grid_formulas.specs.Readers.{AreBelow, Covers, last_of}
use Rattle.grid_formulas.proofs.Indexed.{two_nodes}
use Rattle.grid_formulas.proofs.spans.push_cover.Goals as goal

pub returns-clause-above : goal.returns-clause-above
returns-clause-above c =
    let span = c.args.span.now in
    let low = c.cover-low.result.0 in
    let high = c.cover-low.result.1 in
    let covers : Covers span.first (last_of span) low high = subst (λ z. Covers span.first z low high) c.last.ensures.value c.cover-low.ensures in
    subst (λ (l : List ℕ). AreBelow l (places_of span)) (sym (c.in_ok-push-2.ensures.items ∙ ap (λ (l : List ℕ). l ++ high ∷ []) c.in_ok-push.ensures.items))
    (two_nodes span c.args.nodes.now.items low high covers)
