use Rattle.std.proofs.Common.{List, subst}
use Rattle.host_core.specs.Children.{AreChildren}
use Rattle.host_core.specs.declared.file.KeptFile.{KeptFile}
use Rattle.host_core.specs.Files.{files_of}
use Rattle.host_core.specs.Whole.{joined}
use Rattle.host_core.specs.Ledger.{files_in}
use Rattle.host_core.specs.ShardView.{book_of}
use Rattle.host_core.specs.Value.{Book, state_of}
use Rattle.host_core.proofs.Listings.{children_shown}
use Rattle.host_core.proofs.shard.Shard.children.Goals as goal

pub returns-in-Ok : goal.returns-in-Ok
returns-in-Ok g c =
    let inside = c.self.inside in
    let book = book_of (g.F.Store.notes inside.folder) inside in
    let ledger = inside.ledger in
    subst (λ (b : Book _). AreChildren (state_of b.begin b.made b.time).files c.in-Ok.children) c.self.view_is
    (children_shown book.begin book.made book.time ledger.last _ (files_in ledger) c.in-Ok.children
    c.self.invariant.0.keeps
    (subst (λ (files : List KeptFile). AreChildren (files_of book.begin.first (joined files ledger.rack.locks.files)) c.in-Ok.children) c.deref.ensures.value (c.in-Ok.ensures book.begin.first ledger.rack.locks.files)))
