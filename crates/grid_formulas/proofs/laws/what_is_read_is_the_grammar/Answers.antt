use Rattle.grid_formulas.proofs.Exact.{formula_full, formula_sound, none_is_refused}
use Rattle.grid_formulas.proofs.laws.what_is_read_is_the_grammar.Goals as goal

pub returns-clause-exact : goal.returns-clause-exact
returns-clause-exact c text steps = (formula_sound text steps, formula_full text steps)

pub returns-clause-refused : goal.returns-clause-refused
returns-clause-refused c = none_is_refused
