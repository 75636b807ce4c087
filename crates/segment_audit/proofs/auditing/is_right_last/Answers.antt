use Rattle.std.proofs.Common.{◌≡◌, ◌↔◌, Option, Some, subst}
use Rattle.std.specs.Prelude.{IsTrue}
use Rattle.journal_text.specs.declared.text.Line.{Line}
use Rattle.journal_segments.specs.Told.{Told}
use Rattle.journal_segments.specs.Rows.{last_entry}
use Rattle.segment_audit.specs.Audits.{IsRuledLast}
use Rattle.segment_audit.proofs.auditing.is_right_last.Goals as goal

pub returns-in-Some : goal.returns-in-Some
returns-in-Some c =
    let state = c.args.state.now in
    let told : c.told.result.now ≡ state.told = c.told.ensures in
    let last : Some c.in-Some.line.now ≡ last_entry state.pending = c.in-Some.ensures in
    let P : Told × Option Line → Type 0 = λ p. IsTrue c.is_ruled.result ↔ IsRuledLast p.0 p.1 in
    subst P (λ i. (told i, last i)) c.is_ruled.ensures
