use Rattle.std.proofs.Common.{◌<◌, ◌≡◌, arith, subst}
use Rattle.schedule_text.proofs.WordValues.{counted, none_counted, not_counted}
use Rattle.schedule_text.proofs.values.counted_read.Goals as goal

pub returns-in_default : goal.returns-in_default
returns-in_default c = not_counted c.args.word.now (rw c.in_default.is at c.number_read.ensures)

pub returns-then-number-eq0 : goal.returns-then-number-eq0
returns-then-number-eq0 c = none_counted c.args.word.now c.in-Some.number c.if-number-eq0.true (rw c.in-Some.is at c.number_read.ensures)

pub returns : goal.returns
returns c =
    let some : 0 < c.in-Some.number = omega (arith, c.if-number-eq0.false) in
    counted c.args.word.now c.in-Some.number some (rw c.in-Some.is at c.number_read.ensures)
