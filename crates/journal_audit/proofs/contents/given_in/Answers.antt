use Rattle.journal_audit.proofs.Givings.{given_here, never_given, not_given}
use Rattle.journal_audit.proofs.contents.given_in.Goals as goal

pub returns-in-Some-clause-some : goal.returns-in-Some-clause-some
returns-in-Some-clause-some c =
    given_here c.args.name.now c.args.version c.args.lines.now c.loop-line.line-index c.loop-line.invariant c.line-item.result c.in-Some.contents.now
    c.loop-line-test.true c.line-item.is c.in-Some.ensures.some

pub loop-line-preserved : goal.loop-line-preserved
loop-line-preserved c =
    not_given c.args.name.now c.args.version c.args.lines.now c.loop-line.line-index c.loop-line.invariant c.line-item.result
    c.loop-line-test.true c.line-item.is c.in-None.ensures.none

pub returns-clause-none : goal.returns-clause-none
returns-clause-none c = never_given c.args.name.now c.args.version c.args.lines.now c.loop-line.line-index c.loop-line.invariant c.loop-line-test.false
