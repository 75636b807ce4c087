use Rattle.std.proofs.Common.{◌≡◌, ◌==◌, ◌++◌, take}
use Rattle.replay_cmd.specs.Words.{joined}
use Rattle.replay_cmd.proofs.words.push_line.Given as goal

abbrev pub invariant-words : goal.invariant-words
invariant-words l = record {
  so_far : l.text.items ≡ l.fn.text.items ++ joined (take l.word-index l.words);
  first : l.is_first ≡ (l.word-index == 0);
}
