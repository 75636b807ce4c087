use Rattle.std.proofs.Common.{◌≡◌, ◌+◌, ℕ, Option, refl, ap, subst, sym, ◌∙◌, List, length}
use Rattle.wopi_model.specs.Shard.{Opening}
use Rattle.journal_text.specs.declared.text.Line.{Line}
use Rattle.journal_audit.specs.declared.verdict.AuditFault.{AuditFault}
use Rattle.journal_audit.specs.Audits.{IsFound}
use Rattle.journal_audit.specs.Lines.{IsBadAt, opened_host}
use Rattle.journal_audit.proofs.Hosts.{bad_at}
use Rattle.journal_audit.proofs.auditor.audit.Goals as goal

pub returns-in-None-clause-legal : goal.returns-in-None-clause-legal
returns-in-None-clause-legal c =
    let begun = opened_host c.args.text.now.files c.args.text.now.opened c.args.text.now.first in
    let found = c.in_ok-first_bad.ensures.found begun c.in_ok-auditor.ensures in
    let P : List Line × Option (ℕ × AuditFault) → Type 0 = λ p. IsFound begun p.0 p.1 in
    (λ _. subst P (λ i. (c.as_slice.ensures i, c.in-None.is i)) found, λ _. refl)

pub returns-in-Some-clause-legal : goal.returns-in-Some-clause-legal
returns-in-Some-clause-legal c =
    let begun = opened_host c.args.text.now.files c.args.text.now.opened c.args.text.now.first in
    let found = c.in_ok-first_bad.ensures.found begun c.in_ok-auditor.ensures in
    let P : List Line × Option (ℕ × AuditFault) → Type 0 = λ p. IsFound begun p.0 p.1 in
    let bad = subst P (λ i. (c.as_slice.ensures i, c.in-Some.is i)) found in
    (λ e. absurd (cc e), λ legal. absurd (bad_at begun c.args.text.now.lines c.in-Some.place c.in-Some.fault bad legal))

pub returns-in-Some-clause-bad : goal.returns-in-Some-clause-bad
returns-in-Some-clause-bad c line fault e =
    let begun = opened_host c.args.text.now.files c.args.text.now.opened c.args.text.now.first in
    let found = c.in_ok-first_bad.ensures.found begun c.in_ok-auditor.ensures in
    let P : List Line × Option (ℕ × AuditFault) → Type 0 = λ p. IsFound begun p.0 p.1 in
    let bad = subst P (λ i. (c.as_slice.ensures i, c.in-Some.is i)) found in
    let l : c.line_number-line.result ≡ line = cc e in
    let f : c.in-Some.fault ≡ fault = cc e in (
      c.in-Some.place,
      sym l ∙ c.line_number-line.ensures ∙ ap (λ (o : Opening). c.in-Some.place + length o + 2) c.as_slice-in-Some.ensures,
      subst (λ (w : AuditFault). IsBadAt begun c.args.text.now.lines c.in-Some.place w) f bad,
    )
