use Rattle.std.proofs.Common.{subst}
use Rattle.host_core.specs.Fullness.{AreBytes}
use Rattle.host_core.specs.ShardView.{book_of}
use Rattle.host_core.specs.Value.{Book, happened}
use Rattle.host_core.proofs.Brimming.{bytes_happened}
use Rattle.host_core.proofs.shard.Shard.bytes.Goals as goal

pub returns : goal.returns
returns g c =
    let inside = c.self.inside in
    let book = book_of (g.F.Store.notes inside.folder) inside in
    let stands = c.self.invariant.0 in
    subst (λ (b : Book _). AreBytes b.limits.calls b.begin (happened b) inside.ledger.bytes) c.self.view_is
    (bytes_happened book.limits.calls book.limits.ids book.begin book.made book.time inside.ledger.last inside.ledger.bytes book.ticked stands.timely stands.limits)
