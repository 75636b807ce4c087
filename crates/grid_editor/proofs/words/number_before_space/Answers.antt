use Rattle.std.proofs.Common.{None, Some, sym, ◌∙◌}
use Rattle.grid_editor.proofs.WordLemmas.{number_then, number_not_then}
use Rattle.grid_editor.proofs.words.number_before_space.Goals as goal

pub returns-in_default-clause-none : goal.returns-in_default-clause-none
returns-in_default-clause-none c = number_not_then c.args.text.now None (sym c.first_space.ensures ∙ c.in_default.is) tt

pub returns-in_default-decimal_read-clause-none : goal.returns-in_default-decimal_read-clause-none
returns-in_default-decimal_read-clause-none c =
    number_not_then c.args.text.now (Some c.in-Some.at) (sym c.first_space.ensures ∙ c.in-Some.is) (sym c.in_default-decimal_read.is ∙ c.decimal_read.ensures)

pub returns-clause-some : goal.returns-clause-some
returns-clause-some c =
    number_then c.args.text.now c.in-Some.at c.in-Some-decimal_read.number (sym c.first_space.ensures ∙ c.in-Some.is) (sym c.in-Some-decimal_read.is ∙ c.decimal_read.ensures)
