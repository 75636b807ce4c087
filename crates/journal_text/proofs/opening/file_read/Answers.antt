use Rattle.journal_text.proofs.HexWords.{no_file}
use Rattle.journal_text.proofs.opening.file_read.Goals as goal

pub returns-in_default-2-clause-none : goal.returns-in_default-2-clause-none
returns-in_default-2-clause-none c = λ file form says.
    no_file c.args.row.now c.in-Some.id.now c.in-Some.digits.now file c.in-Some.ensures.some (rw c.in_default-2.is at c.in_ok-contents.ensures.none) form says
