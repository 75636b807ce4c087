use Rattle.std.proofs.Common.{List, ℕ, length, ap, subst, sym}
use Rattle.journal_audit.specs.declared.input.Progress.{Progress}
use Rattle.journal_audit.specs.Streams.{KeepsJournal}
use Rattle.journal_audit.proofs.Streaming.{file_keeps}
use Rattle.journal_audit.proofs.input.add_file.Goals as goal

pub returns-in-Ok : goal.returns-in-Ok
returns-in-Ok c = λ text none keeps.
    let file = c.args.file.now in
    file_keeps c.in-Legal.auditor c.add_file.new.self text file none
    (λ is. c.in-Ok.ensures text.files file.1 text.opened text.first (ap (λ (l : List ℕ). length l) (sym c.as_slice.ensures)) is)
    (subst (λ (p : Progress). KeepsJournal p text) c.in-Legal.is keeps)
