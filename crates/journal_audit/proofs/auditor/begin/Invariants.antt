use Rattle.std.specs.Prelude.{take}
use Rattle.journal_audit.specs.Audits.{IsOpenedHost}
use Rattle.journal_audit.proofs.auditor.begin.Given as goal

-- the files before are those that the tracks have
abbrev pub invariant-loop-file : goal.invariant-loop-file
invariant-loop-file l = IsOpenedHost l.auditor (take l.file-index l.text.files) l.text.opened l.text.first
