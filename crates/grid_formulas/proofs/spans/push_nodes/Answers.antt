use Rattle.grid_formulas.proofs.Indexed.{all_rows, on_ok_both}
use Rattle.grid_formulas.proofs.spans.push_nodes.Goals as goal

pub returns-clause-above : goal.returns-clause-above
returns-clause-above c =
    on_ok_both c.push_rows.result (λ _ rows. all_rows c.args.span.now c.push_rows.new.nodes.items rows) c.push_rows.ensures.before c.push_rows.ensures.above
