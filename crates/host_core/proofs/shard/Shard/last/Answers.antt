use Rattle.std.proofs.Common.{List, sym, ap, ◌∙◌}
use Rattle.wopi_model.specs.Shard.{last_from, stamps, entries, Entry}
use Rattle.host_core.specs.Entries.{history_of, items_of}
use Rattle.host_core.specs.ShardView.{book_of}
use Rattle.host_core.specs.Value.{Book}
use Rattle.host_core.proofs.History.{entries_of-tick}
use Rattle.host_core.proofs.shard.Shard.last.Goals as goal

pub returns : goal.returns
returns g c =
    let book = book_of (g.F.Store.notes c.self.inside.folder) c.self.inside in
    c.self.invariant.0.keeps.last_is ∙ sym (ap (λ (es : List Entry). last_from book.begin.last (stamps es)) (entries_of-tick (items_of book.made) book.time))
    ∙ ap (λ (b : Book _). last_from b.begin.last (stamps (entries (history_of b.made b.time)))) c.self.view_is
