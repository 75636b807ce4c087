use Rattle.std.proofs.Common.{subst}
use Rattle.host_core.specs.Value.{IsLawful}
use Rattle.host_core.specs.Ledger.{files_in}
use Rattle.host_core.specs.ShardView.{book_of}
use Rattle.host_core.proofs.Standing.{lawful}
use Rattle.host_core.proofs.shard.Shard.len.Goals as goal

pub returns-clause-lawful : goal.returns-clause-lawful
returns-clause-lawful g c =
    let files = g.F.Store.files in
    let faults = g.F.Store.faults in
    let inside = c.self.inside in
    subst (λ book. IsLawful book (files book.start) (files book.folder) (faults book.start) (faults book.folder)) c.self.view_is
    (lawful (book_of (g.F.Store.notes inside.folder) inside) inside.ledger.last (files_in inside.ledger) inside.ledger.bytes
    (files inside.start.value) (files inside.folder) (faults inside.start.value) (faults inside.folder) c.self.invariant.0)
