use Rattle.std.proofs.Common.{◌≡◌, List, Option, IfSome, refl, sym, subst, ◌∙◌}
use Rattle.wopi_model.specs.Moment.{IsMoment}
use Rattle.host_core.specs.declared.ledger.Ledger.{Ledger}
use Rattle.wopi_model.specs.Host.{kept_from}
use Rattle.host_core.specs.Entries.{history_of, items_of}
use Rattle.host_core.specs.declared.facts.Facts.{Facts}
use Rattle.host_core.specs.Facts.{date_in, facts_of, saved_at}
use Rattle.host_core.specs.Files.{files_of}
use Rattle.host_core.specs.Ledger.{files_in}
use Rattle.host_core.specs.ShardView.{book_of}
use Rattle.host_core.specs.Value.{Book, Stands, state_of}
use Rattle.host_core.specs.Whole.{Whole}
use Rattle.host_core.proofs.Chaining.{with_chains}
use Rattle.host_core.proofs.Telling.{facts_told, files_told, tied_told, told_moment}
use Rattle.host_core.proofs.shard.Shard.facts.Goals as goal

pub invariant_of-self : goal.invariant_of-self
invariant_of-self g c =
    let files = g.F.Store.files in
    let faults = g.F.Store.faults in
    let inside = c.self.inside in
    let ledger = inside.ledger in
    let notes = g.F.Store.notes inside.folder in
    let book = book_of notes inside in
    let told = c.facts.ensures in
    let after : Ledger = record ledger { rack = c.facts.new.self } in
    with_chains after notes book (files inside.start.value) (files inside.folder) (faults inside.start.value) (faults inside.folder) refl
    (subst (λ (l : List Whole). Stands book ledger.last l ledger.bytes (files inside.start.value) (files inside.folder) (faults inside.start.value) (faults inside.folder))
    (sym (files_told ledger c.facts.new.self notes told.files told.locks)) c.self.invariant.0)
    (tied_told ledger c.facts.new.self notes told.files told.locks told.digests told.index c.self.invariant.1)

pub returns-clause-moment : goal.returns-clause-moment
returns-clause-moment g c =
    let inside = c.self.inside in
    let ledger = inside.ledger in
    let first = (g.F.Store.notes inside.folder).begin.first in
    let name = c.args.name.now in
    subst (λ (o : Option Facts). IfSome o (λ facts. IsMoment facts.saved)) (sym (c.facts.ensures.facts first ledger.rack.locks.files))
    (told_moment c.args.digest (date_in ledger.rack.files.items name) (files_of first (files_in ledger) name).contents (c.self.invariant.1.dated.moments name))

pub returns-clause-facts : goal.returns-clause-facts
returns-clause-facts g c =
    let inside = c.self.inside in
    let ledger = inside.ledger in
    let notes = g.F.Store.notes inside.folder in
    let book = book_of notes inside in
    let name = c.args.name.now in
    subst (λ (b : Book _). c.facts.result ≡ facts_of c.args.digest (saved_at b.begin b.dates (history_of b.made b.time) name) ((state_of b.begin b.made b.time).files name).contents) c.self.view_is
    (c.facts.ensures.facts book.begin.first ledger.rack.locks.files ∙ facts_told book ledger notes refl refl refl (kept_from book.begin (items_of book.made)) c.self.invariant.0.keeps c.self.invariant.1 c.args.digest name)
