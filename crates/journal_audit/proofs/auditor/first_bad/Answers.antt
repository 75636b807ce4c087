use Rattle.std.proofs.Common.{◌+◌, Option, Some, ap, subst, sym, ◌∙◌}
use Rattle.std.specs.Prelude.{take}
use Rattle.journal_audit.specs.declared.verdict.AuditFault.{AuditFault}
use Rattle.journal_audit.specs.Audits.{Judges, Keeps}
use Rattle.journal_audit.specs.Lines.{Begun, IsBadAt, behind_lines}
use Rattle.journal_audit.proofs.Auditing.{bad_behind, legal_next}
use Rattle.journal_audit.proofs.Tracking.{got_or}
use Rattle.journal_text.specs.declared.text.Line.{Line}
use Rattle.journal_audit.proofs.auditor.first_bad.Goals as goal

pub returns-in-Some-clause-found : goal.returns-in-Some-clause-found
returns-in-Some-clause-found c begun keeps =
    let lines = c.args.lines.now in
    let place = c.loop-line.line-index in
    let at = got_or lines place c.line-item.result c.loop-line-test.true ∙ ap (λ (l : Line). Some l) (sym c.line-item.is) in
    let so = c.loop-line.invariant.1 begun keeps in
    let judged = subst (λ (w : Option AuditFault). Judges c.loop-line.auditor c.line-item.result w c.take.new.self) c.in-Some.is c.in_ok-fault.ensures in
    subst (λ n. IsBadAt begun lines n c.in-Some.fault) (sym c.loop-line.invariant.0)
    (bad_behind begun lines place c.line-item.result c.in-Some.fault so.0 at (judged (behind_lines begun (take place lines)) so.1))

pub loop-line-preserved : goal.loop-line-preserved
loop-line-preserved c =
    let lines = c.args.lines.now in
    let place = c.loop-line.line-index in
    let at = got_or lines place c.line-item.result c.loop-line-test.true ∙ ap (λ (l : Line). Some l) (sym c.line-item.is) in
    let judged = subst (λ (w : Option AuditFault). Judges c.loop-line.auditor c.line-item.result w c.take.new.self) c.in-None.is c.in_ok-fault.ensures in (
      ap (λ n. n + 1) c.loop-line.invariant.0,
      λ begun keeps.
          let so = c.loop-line.invariant.1 begun keeps in
          let is = judged (behind_lines begun (take place lines)) so.1 in
          let more = legal_next begun lines place c.line-item.result so.0 at is.0 in
          (more.0, subst (λ (b : Begun). Keeps c.take.new.self b) (sym more.1) is.1),
    )
