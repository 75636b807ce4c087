use Rattle.containers.proofs.Readings.{ReadsAs-fields, headless, uncounted, untold}
use Rattle.containers.proofs.reading.reading_of.Goals as goal

pub returns-in_err-head-clause-none : goal.returns-in_err-head-clause-none
returns-in_err-head-clause-none c = rw c.from_residual.ensures (headless c.args.text.now c.in_err-head.ensures.none)

pub returns-in_err-tail-clause-none : goal.returns-in_err-tail-clause-none
returns-in_err-tail-clause-none c =
    rw c.from_residual-in_err-tail.ensures (uncounted c.args.text.now c.in_ok-head.head.number c.in_ok-head.head.user c.in_ok-head.head.rest.now
    c.in_ok-head.ensures.some c.in_err-tail.ensures.none)

pub returns-in_err-claims-clause-none : goal.returns-in_err-claims-clause-none
returns-in_err-claims-clause-none c =
    rw c.from_residual-in_err-claims.ensures (untold c.args.text.now c.in_ok-head.head.number c.in_ok-head.head.user c.in_ok-head.head.rest.now
    c.in_ok-tail.tail c.in_ok-head.ensures.some c.in_ok-tail.ensures.some c.in_err-claims.ensures.none)

pub returns-clause-some : goal.returns-clause-some
returns-clause-some c =
    ReadsAs-fields c.args.text.now c.in_ok-head.head.number c.in_ok-head.head.user c.in_ok-head.head.rest.now c.in_ok-tail.tail
    c.in_ok-claims.claims c.in_ok-head.ensures.some c.in_ok-tail.ensures.some c.in_ok-claims.ensures.some
