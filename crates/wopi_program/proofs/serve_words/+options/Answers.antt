use Rattle.std.proofs.Common.{string_bytes, arith}
use Rattle.wopi_program.proofs.ServeRows.{many_words, one_word}
use Rattle.wopi_program.proofs.serve_words.+options.Goals as goal

pub returns-then-words-gt12-clause-value : goal.returns-then-words-gt12-clause-value
returns-then-words-gt12-clause-value n c = many_words string_bytes c.args.words.now (omega arith)

pub returns-in_default-clause-value : goal.returns-in_default-clause-value
returns-in_default-clause-value n c = one_word string_bytes c.args.words.now (omega arith) (omega arith)
