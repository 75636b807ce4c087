use Rattle.std.proofs.Common.{arith}
use Rattle.grid_formulas.specs.Places.{text_at}
use Rattle.grid_formulas.proofs.Linked.{links_changed, links_of_one}
use Rattle.grid_formulas.proofs.links.links_after.Goals as goal

pub returns-then-named-others-clause-refused : goal.returns-then-named-others-clause-refused
returns-then-named-others-clause-refused c =
    let changed = links_changed (text_at c.args.old.now) (text_at c.args.grid.now) c.args.place c.requires.small c.requires.same in
    let one = links_of_one (text_at c.args.old.now) c.args.place c.requires.small in
    omega (arith, changed, one, c.requires.counts, c.requires.few, c.requires.named, c.named_at.ensures, c.saturating_sub-others.ensures)

pub returns-clause-counts : goal.returns-clause-counts
returns-clause-counts c =
    let changed = links_changed (text_at c.args.old.now) (text_at c.args.grid.now) c.args.place c.requires.small c.requires.same in
    let one = links_of_one (text_at c.args.old.now) c.args.place c.requires.small in
    omega (arith, changed, one, c.requires.counts, c.requires.few, c.requires.named, c.named_at.ensures, c.saturating_sub-others.ensures)
