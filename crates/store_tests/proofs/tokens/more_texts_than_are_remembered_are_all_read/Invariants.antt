use Rattle.access_tokens.specs.Remembering.{Remembers}
use Rattle.store_tests.proofs.tokens.more_texts_than_are_remembered_are_all_read.Given as goal

abbrev pub invariant-numbers : goal.invariant-numbers
invariant-numbers g l = Remembers l.keys l.recent
