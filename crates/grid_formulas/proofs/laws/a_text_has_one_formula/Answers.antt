use Rattle.grid_formulas.proofs.Exact.{one_formula}
use Rattle.grid_formulas.proofs.laws.a_text_has_one_formula.Goals as goal

pub returns : goal.returns
returns c = one_formula
