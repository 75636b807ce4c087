use Rattle.std.proofs.Common.{refl}
use Rattle.journal_segments.proofs.rows.lock_closing.Goals as goal

pub returns-clause-some : goal.returns-clause-some
returns-clause-some c =
    let since = (c.in-Some-moment_read.ensures c.in-Some-moment_read.since).0 refl in
    let until = (c.in-Some-number_read.ensures c.in-Some-number_read.until).0 refl in
    let id = c.in-Some-lock_read.ensures.some in
    ((id.0, since.0, until.0), cc (c.in-Some.ensures.some, c.in-Some-split_word.ensures.some, c.has_more.ensures.one c.if-has_more.false, id.1, since.1, until.1))
