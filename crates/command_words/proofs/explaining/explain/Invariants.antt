use Rattle.std.proofs.Common.{map, string_bytes}
use Rattle.command_words.specs.Lines.{AllFit}
use Rattle.command_words.proofs.explaining.explain.Given as goal

abbrev pub invariant-places : goal.invariant-places
invariant-places l = AllFit (map string_bytes l.words) l.place
