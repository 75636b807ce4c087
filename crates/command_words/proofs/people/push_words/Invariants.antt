use Rattle.std.proofs.Common.{◌≡◌, ◌++◌, map, drop, string_bytes}
use Rattle.command_words.proofs.people.push_words.Given as goal

abbrev pub invariant-loop-word : goal.invariant-loop-word
invariant-loop-word l = map string_bytes l.words.items ++ map string_bytes (drop l.word-index l.more) ≡ map string_bytes l.initial.words.items ++ map string_bytes l.more
