use Rattle.std.specs.Prelude.{take}
use Rattle.std.specs.List.{AllByRecursion}
use Rattle.journal_audit.specs.Contents.{GivesNone}
use Rattle.journal_audit.proofs.contents.given_in.Given as goal

-- the lines before didn't give it
abbrev pub invariant-loop-line : goal.invariant-loop-line
invariant-loop-line l = AllByRecursion (GivesNone l.name l.version) (take l.line-index l.lines)
