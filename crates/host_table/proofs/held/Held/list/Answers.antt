use Rattle.std.proofs.Common.{List, length, refl, sym, ap, ◌∙◌}
use Rattle.wopi_model.specs.Shard.{Entry}
use Rattle.host_core.specs.Value.{Book}
use Rattle.host_core.proofs.Listings.{children_untimed}
use Rattle.host_core.proofs.Timing.{entries-untimed}
use Rattle.host_table.proofs.Holding.{seen_of}
use Rattle.host_table.proofs.Stamps.{steps-long}
use Rattle.host_table.proofs.held.Held.list.Goals as goal

pub returns-in-Ok-clause-seen : goal.returns-in-Ok-clause-seen
returns-in-Ok-clause-seen g c = rw (← c.self.view_is) (seen_of c.self.inside.shard _ _ _ _ _ _ c.self.invariant c.len-place.ensures.lawful.alone)

pub returns-in-Err-clause-seen : goal.returns-in-Err-clause-seen
returns-in-Err-clause-seen g c = rw (← c.self.view_is) (seen_of c.self.inside.shard _ _ _ _ _ _ c.self.invariant c.len-place.ensures.lawful.alone)

pub returns-in-Ok-clause-shows : goal.returns-in-Ok-clause-shows
returns-in-Ok-clause-shows g c =
    let book : Book g.row.F.Denot = c.self.inside.shard in
    let goes = c.len-place.ensures.lawful.timely c.self.invariant.unticked in
    rw (← c.self.view_is) (record {
      shard_is = refl;
      place_is = c.len-place.ensures.count ∙ sym (ap (λ (es : List Entry). length es) (entries-untimed book.made) ∙ steps-long book.made);
      children_are = children_untimed book.begin book.made book.time c.in-Ok.children goes.timely c.in-Ok.ensures;
    })
