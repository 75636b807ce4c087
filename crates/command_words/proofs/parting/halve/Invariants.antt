use Rattle.std.proofs.Common.{◌≡◌, ◌++◌, map, drop, string_bytes}
use Rattle.command_words.specs.Parts.{halved}
use Rattle.command_words.proofs.parting.halve.Given as goal

abbrev pub invariant-loop-word : goal.invariant-loop-word
invariant-loop-word l = map string_bytes l.all.items ++ halved l.kind (map string_bytes (drop l.word-index l.words)) ≡ halved l.kind (map string_bytes l.words)
