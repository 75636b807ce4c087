use Rattle.std.proofs.Common.{subst, sym}
use Rattle.journal_text.specs.Reader.{with_line}
use Rattle.journal_audit.specs.declared.input.Progress.{Progress}
use Rattle.journal_audit.specs.Streams.{KeepsJournal}
use Rattle.journal_audit.proofs.Streaming.{bad_stays, next_keeps}
use Rattle.journal_audit.proofs.input.next_fault.Goals as goal

pub returns-in-Ok : goal.returns-in-Ok
returns-in-Ok c = λ text keeps.
    next_keeps c.in-Legal.auditor c.take.new.self text c.args.line.now c.in-Ok.wrong c.in-Ok.ensures
    (subst (λ (p : Progress). KeepsJournal p text) c.in-Legal.is keeps)

pub returns-in-Bad : goal.returns-in-Bad
returns-in-Bad c = λ text keeps.
    subst (λ (p : Progress). KeepsJournal p (with_line text c.args.line.now)) (sym c.in-Bad.is)
    (bad_stays text c.args.line.now c.in-Bad.line c.in-Bad.fault (subst (λ (p : Progress). KeepsJournal p text) c.in-Bad.is keeps))
