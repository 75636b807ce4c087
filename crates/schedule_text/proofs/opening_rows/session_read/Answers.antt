use Rattle.std.proofs.Common.{[], refl}
use Rattle.schedule_text.proofs.SessionRows.{neither_row, no_session_row, session_row}
use Rattle.schedule_text.proofs.opening_rows.session_read.Goals as goal

pub returns-in_default-clause-none : goal.returns-in_default-clause-none
returns-in_default-clause-none c = neither_row c.args.row.now c.issued_read.result c.in_default.ensures.none c.issued_read.ensures.none

pub returns-clause-some : goal.returns-clause-some
returns-clause-some c =
    let word = c.in-Some in
    session_row c.args.row.now word.kind.now word.id.now word.nonce.now word.expires.now [] 0 c.session_of.result
    word.ensures.some refl c.session_of.ensures.some c.session_of.ensures.issued

pub returns-clause-none : goal.returns-clause-none
returns-clause-none c =
    let word = c.in-Some in
    no_session_row c.args.row.now word.kind.now word.id.now word.nonce.now word.expires.now [] c.session_of.result word.ensures.some c.session_of.ensures.none
