use Rattle.std.proofs.Common.{◌≡◌, map, take}
use Rattle.replay_cmd.proofs.words.words_of.Given as goal

abbrev pub invariant-loop-word : goal.invariant-loop-word
invariant-loop-word l = l.list.items ≡ map (λ word. word.now) (take l.word-index l.words)
