use Rattle.std.proofs.Common.{◌≡◌, ◌++◌, List, map, filter, sym, ap, subst, ◌∙◌}
use Rattle.kept_locks.specs.Locks.{Standing}
use Rattle.host_core.specs.declared.file.KeptFile.{KeptFile}
use Rattle.host_core.specs.Going.{is_unmet, kept_gone, kept_on, locks_in, locks_on}
use Rattle.host_core.specs.Names.{AreOnce}
use Rattle.host_core.specs.Numbers.{IsNumbered, named}
use Rattle.host_core.proofs.Joins.{going, names_on}
use Rattle.host_core.proofs.Starting.{sorted_once}
use Rattle.host_core.proofs.going.join.Goals as goal

pub take_on_gone-requires-clause-numbered : goal.take_on_gone-requires-clause-numbered
take_on_gone-requires-clause-numbered c =
    subst (IsNumbered c.args.stock.now.index) (sym (names_on c.args.life.now c.args.stock.now.files.items) ∙ sym (ap named c.in_ok-told.ensures.files)) c.requires.stock.numbered

pub take_on_gone-requires-clause-once : goal.take_on_gone-requires-clause-once
take_on_gone-requires-clause-once c =
    subst AreOnce (sym (names_on c.args.life.now c.args.stock.now.files.items) ∙ sym (ap named c.in_ok-told.ensures.files))
    (subst AreOnce (sym c.requires.stock.names) (sorted_once _ c.requires.ordered))

pub returns : goal.returns
returns c =
    let life = c.args.life.now in
    let stock = c.args.stock.now in
    let found = c.in_ok-told.ensures.files in
    let gone = c.in_ok-take_on_gone.ensures in
    going c.requires.life.0 life stock c.take_on_gone.new.stock c.take_on_gone.new.told.items c.requires.life.1 c.requires.stock
    (subst AreOnce (sym c.requires.stock.names) (sorted_once _ c.requires.ordered))
    (gone.files ∙ ap (λ (l : List KeptFile). l ++ map kept_gone (filter (is_unmet (named l)) life.files.items)) found)
    (gone.told ∙ ap (λ (l : List KeptFile). c.in_ok-told.told.items ++ map (locks_on life.now) (filter (is_unmet (named l)) life.files.items)) found
    ∙ ap (λ (t : List Standing). t ++ map (locks_on life.now) (filter (is_unmet (named (map (kept_on life) stock.files.items))) life.files.items)) c.in_ok-told.ensures.locks)
    gone.numbered gone.once gone.bytes gone.few
