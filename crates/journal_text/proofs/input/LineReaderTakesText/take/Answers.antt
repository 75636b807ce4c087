use Rattle.std.proofs.Common.{arith}
use Rattle.std.proofs.lemmas.List.{length-append}
use Rattle.journal_text.proofs.input.LineReaderTakesText.take.Goals as goal

pub returns-clause-taken : goal.returns-clause-taken
returns-clause-taken g c = λ text come.
    let len = length-append text c.args.piece.now in
    let same = c.take_all.ensures.size in
    let size = come.size in
    let count = come.count in
    let more = c.in-Ok.ensures.count in
    let within = c.if-self-gt-MOST_BYTES.false in
    record {
      reaches = c.in-Ok.ensures.taken text come.reaches;
      size = omega (arith, len, same, size);
      count = omega (arith, len, count, more);
      few = omega (arith, len, same, size, within);
    }
