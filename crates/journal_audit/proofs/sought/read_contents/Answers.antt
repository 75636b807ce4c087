use Rattle.std.proofs.Common.{◌≡◌, ℕ, true, Result, rules, subst}
use Rattle.std.specs.Prelude.{IfOk}
use Rattle.std.specs.Str.{bytes_eq}
use Rattle.line_text.specs.declared.input.InputFault.{InputFault}
use Rattle.journal_text.specs.declared.journal.JournalFault.{JournalFault}
use Rattle.journal_text.specs.Coming.{IsKeptOf}
use Rattle.journal_audit.specs.declared.sought.Sought.{Sought}
use Rattle.journal_audit.specs.Streams.{Seeks}
use Rattle.journal_audit.proofs.Seeking.{found_in}
use Rattle.journal_audit.proofs.sought.read_contents.Goals as goal

pub returns-then-sought-version-clause-found : goal.returns-then-sought-version-clause-found
returns-then-sought-version-clause-found g c =
    let left = g.S.Source.left c.args.source.now in
    let left' = g.S.Source.left c.read_lines.new.source in
    let own : bytes_eq c.in-Ok.sought.name c.args.name.now ≡ true = search rules in
    let at : c.in-Ok.sought.version ≡ c.args.version = search rules in
    found_in left left' c.in-Ok.sought c.in-Ok._entries c.args.name.now c.args.version own at
    (subst (λ (r : Result (Sought × ℕ) (InputFault JournalFault)). IfOk r (λ read. IsKeptOf Seeks left left' read.0 read.1)) c.in-Ok.is c.read_lines.ensures.read)
