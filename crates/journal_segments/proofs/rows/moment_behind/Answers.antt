use Rattle.std.proofs.Common.{refl}
use Rattle.journal_segments.proofs.rows.moment_behind.Goals as goal

pub returns-clause-some : goal.returns-clause-some
returns-clause-some c =
    let number = (c.in-Some-moment_read.ensures c.in-Some-moment_read.number).0 refl in
    (number.0, cc (c.in-Some.ensures.some, number.1))
