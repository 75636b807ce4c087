use Rattle.std.proofs.Common.{Option, subst}
use Rattle.journal_audit.specs.declared.verdict.AuditFault.{AuditFault}
use Rattle.journal_audit.specs.Audits.{Audited, Turns}
use Rattle.journal_audit.proofs.Auditing.{judged_turn, judged_well}
use Rattle.journal_audit.proofs.auditor.judge.Goals as goal

pub returns-in-Some-clause-judges : goal.returns-in-Some-clause-judges
returns-in-Some-clause-judges c =
    let old : Audited = record { order = c.args.order.now; tracks = c.args.tracks.now.items } in
    let line = c.args.line.now in
    let tracks' = c.take_turn.new.tracks.items in
    judged_turn old old line c.in-Some.fault tracks' (λ begun keeps. (c.takes.ensures begun keeps).0 c.if-not-takes.false)
    (subst (λ (w : Option AuditFault). Turns old.tracks line w tracks') c.in-Some.is c.in_ok-fault.ensures.turns)

pub returns-clause-judges : goal.returns-clause-judges
returns-clause-judges c =
    let old : Audited = record { order = c.args.order.now; tracks = c.args.tracks.now.items } in
    let line = c.args.line.now in
    let new : Audited = record { order = c.go_on.new.self; tracks = c.take_turn.new.tracks.items } in
    judged_well old new line (λ begun keeps. (c.takes.ensures begun keeps).0 c.if-not-takes.false)
    (subst (λ (w : Option AuditFault). Turns old.tracks line w new.tracks) c.in-None.is c.in_ok-fault.ensures.turns)
    c.in_ok-go_on.ensures
