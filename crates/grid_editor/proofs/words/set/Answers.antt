use Rattle.grid_editor.proofs.WordLemmas.{set_refused}
use Rattle.grid_editor.proofs.words.set.Goals as goal

pub returns-in_default-number_before_space-2-clause-none : goal.returns-in_default-number_before_space-2-clause-none
returns-in_default-number_before_space-2-clause-none c =
    set_refused c.args.line.now c.in-Some.rest.now c.in-Some-number_before_space.rest.now c.in-Some-number_before_space.row c.in-Some.ensures.some
    c.in-Some-number_before_space.ensures.some c.in_default-number_before_space-2.ensures.none
