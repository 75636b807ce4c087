use Rattle.grid_editor.proofs.WordLemmas.{behind_word, not_behind_word}
use Rattle.grid_editor.proofs.words.after.Goals as goal

pub returns-clause-some : goal.returns-clause-some
returns-clause-some c = behind_word (λ x. x.now) c.args.line.now c.args.word.now c.strip_prefix.result c.strip_prefix.ensures.cases

pub returns-clause-none : goal.returns-clause-none
returns-clause-none c = not_behind_word (λ x. x.now) c.args.line.now c.args.word.now c.strip_prefix.result c.strip_prefix.ensures.cases
