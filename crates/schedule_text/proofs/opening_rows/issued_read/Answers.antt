use Rattle.std.proofs.Common.{◌∷◌, []}
use Rattle.schedule_text.proofs.SessionRows.{session_row}
use Rattle.schedule_text.proofs.opening_rows.issued_read.Goals as goal

pub returns-clause-some : goal.returns-clause-some
returns-clause-some c =
    let word = c.in-Some in
    let issued = (c.moment_read.ensures c.in-Some-moment_read.issued).0 c.in-Some-moment_read.is in
    session_row c.args.row.now word.kind.now word.id.now word.nonce.now word.expires.now (word.issued.now ∷ []) c.in-Some-moment_read.issued c.session_of.result
    word.ensures.some issued c.session_of.ensures.some c.session_of.ensures.issued
