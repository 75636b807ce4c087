use Rattle.std.proofs.Common.{◌≡◌, subst, ◌∙◌, refl}
use Rattle.wopi_model.specs.Host.{kept_from}
use Rattle.host_core.specs.Entries.{history_of, items_of}
use Rattle.host_core.specs.Facts.{is_late}
use Rattle.host_core.specs.ShardView.{book_of}
use Rattle.host_core.specs.Value.{Book}
use Rattle.host_core.proofs.Telling.{late_told}
use Rattle.host_core.proofs.shard.Shard.is_late.Goals as goal

pub returns : goal.returns
returns g c =
    let inside = c.self.inside in
    let ledger = inside.ledger in
    let notes = g.F.Store.notes inside.folder in
    let book = book_of notes inside in
    subst (λ (b : Book _). c.is_late.result ≡ is_late b.begin b.dates (history_of b.made b.time) c.args.call.now c.args.known c.args.moment) c.self.view_is
    (c.is_late.ensures book.begin.first ∙ late_told book ledger notes refl refl refl (kept_from book.begin (items_of book.made)) c.self.invariant.0.keeps c.self.invariant.1 c.args.call.now c.args.known c.args.moment ledger.opened c.max-now.result c.self.invariant.1.opened c.max-now.ensures)
