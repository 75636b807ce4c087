use Rattle.grid_editor.proofs.WordLemmas.{number_found, number_missing}
use Rattle.grid_editor.proofs.words.number_after.Goals as goal

pub returns-clause-some : goal.returns-clause-some
returns-clause-some c = number_found c.args.line.now c.args.word.now c.in-Some.rest.now c.decimal_read.result c.decimal_read.ensures c.in-Some.ensures.some

pub returns-clause-none : goal.returns-clause-none
returns-clause-none c = number_missing c.args.line.now c.args.word.now c.in-Some.rest.now c.decimal_read.result c.decimal_read.ensures c.in-Some.ensures.some
