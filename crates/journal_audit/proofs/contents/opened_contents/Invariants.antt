use Rattle.std.specs.Prelude.{◌≡◌, drop}
use Rattle.host_core.specs.Opening.{opened_contents}
use Rattle.journal_audit.proofs.contents.opened_contents.Given as goal

-- the files before have other names
abbrev pub invariant-loop-file : goal.invariant-loop-file
invariant-loop-file l = opened_contents l.files l.name ≡ opened_contents (drop l.file-index l.files) l.name
