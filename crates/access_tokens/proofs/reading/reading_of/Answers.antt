use Rattle.access_tokens.proofs.Readings.{ReadsAs-fields, headless, uncounted, untold}
use Rattle.access_tokens.proofs.reading.reading_of.Goals as goal

pub returns-in_err-head-clause-none : goal.returns-in_err-head-clause-none
returns-in_err-head-clause-none c = rw c.from_residual.ensures (headless c.args.text.now c.in_err-head.ensures.none)

pub returns-in_err-fields-clause-none : goal.returns-in_err-fields-clause-none
returns-in_err-fields-clause-none c =
    rw c.from_residual-in_err-fields.ensures (uncounted c.args.text.now c.in_ok-head.head.written c.in_ok-head.head.rest.now
    c.in_ok-head.ensures.some c.in_err-fields.ensures.none)

pub returns-in_err-token-clause-none : goal.returns-in_err-token-clause-none
returns-in_err-token-clause-none c =
    rw c.from_residual-in_err-token.ensures (untold c.args.text.now c.in_ok-head.head.written c.in_ok-head.head.rest.now c.in_ok-fields.fields
    c.in_ok-head.ensures.some c.in_ok-fields.ensures.some c.in_err-token.ensures.none)

pub returns-clause-some : goal.returns-clause-some
returns-clause-some c =
    ReadsAs-fields c.args.text.now c.in_ok-head.head.written c.in_ok-head.head.rest.now c.in_ok-fields.fields c.in_ok-token.token
    c.in_ok-head.ensures.some c.in_ok-fields.ensures.some c.in_ok-token.ensures.some
