use Rattle.std.proofs.Common.{IsUtf8, chars, string_bytes}
use Rattle.utf7_text.specs.Writing.{written}
use Rattle.utf7_text.proofs.Runs.{Writes}
use Rattle.utf7_text.proofs.writing.utf7_write.Given as goal

abbrev pub invariant-loop-character : goal.invariant-loop-character
invariant-loop-character l = record {
  utf8 : IsUtf8 l.character-iterator.rest.now;
  so_far : Writes (string_bytes l.out) l.held.items (chars l.character-iterator.rest.now) (written l.text);
}
