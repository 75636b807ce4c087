use Rattle.std.proofs.Common.{◌≡◌, subst, sym}
use Rattle.journal_audit.specs.Audits.{Audited, IsOpenedHost}
use Rattle.journal_audit.proofs.auditor.Auditor.add_file.Goals as goal

pub returns-in-Ok : goal.returns-in-Ok
returns-in-Ok c files contents opened first long is =
    let inside = c.self.inside in
    let old : Audited = record { order = inside.order; tracks = inside.tracks.items } in
    let view : old ≡ c.args.self.now = c.self.view_is in
    let was : IsOpenedHost old files opened first = subst (λ (a : Audited). IsOpenedHost a files opened first) (sym view) is in
    record { order = was.order; tracks = c.in-Ok.ensures.opened files contents opened first long was.tracks }
