use Rattle.std.proofs.Common.{◌≡◌}
use Rattle.std.specs.Prelude.{take}
use Rattle.journal_audit.specs.Audits.{Keeps}
use Rattle.journal_audit.specs.Lines.{Begun, LegalLines, behind_lines}
use Rattle.journal_audit.proofs.auditor.first_bad.Given as goal

-- the lines before are legal, and are kept
abbrev pub invariant-loop-line : goal.invariant-loop-line
invariant-loop-line l =
    (l.place ≡ l.line-index) × ((begun : Begun) → Keeps l.fn.auditor begun → LegalLines begun (take l.line-index l.lines) × Keeps l.auditor (behind_lines begun (take l.line-index l.lines)))
