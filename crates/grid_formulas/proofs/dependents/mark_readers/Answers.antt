use Rattle.std.specs.BTreeMap.{get}
use Rattle.std.specs.Ordering.{nat_cmp}
use Rattle.grid_formulas.proofs.Indexed.{above_zero}
use Rattle.grid_formulas.proofs.Marked.{climbs_all, climbs_more, climbs_none, marks_none, marks_on}
use Rattle.grid_formulas.proofs.dependents.mark_readers.Goals as goal

pub levels-init : goal.levels-init
levels-init c = record {
  more = marks_none (get nat_cmp c.args.after.now) c.args.places.now.items c.requires.marked;
  climbs = climbs_none (get nat_cmp c.args.nodes.now) (get nat_cmp c.args.readers.now) c.args.place _ (get nat_cmp c.args.after.now) (above_zero c.args.place);
}

pub returns-then-node-eq0-clause-all : goal.returns-then-node-eq0-clause-all
returns-then-node-eq0-clause-all c =
    climbs_all (get nat_cmp c.args.nodes.now) (get nat_cmp c.args.readers.now) c.args.place c.levels.node (get nat_cmp c.levels.after) c.levels.places.items (get nat_cmp c.mark_kept.new.after) c.mark_kept.new.places.items
    c.levels.invariant.climbs c.in_ok-mark_kept.ensures.more c.in_ok-mark_kept.ensures.all c.if-node-eq0.true

pub levels-preserved : goal.levels-preserved
levels-preserved c = record {
  more = marks_on (get nat_cmp c.args.after.now) c.args.places.now.items (get nat_cmp c.levels.after) c.levels.places.items (get nat_cmp c.mark_kept.new.after) c.mark_kept.new.places.items c.levels.invariant.more c.in_ok-mark_kept.ensures.more;
  climbs = climbs_more (get nat_cmp c.args.nodes.now) (get nat_cmp c.args.readers.now) c.args.place c.levels.node (get nat_cmp c.levels.after) c.levels.places.items (get nat_cmp c.mark_kept.new.after) c.mark_kept.new.places.items
      c.levels.invariant.climbs c.in_ok-mark_kept.ensures.more c.in_ok-mark_kept.ensures.all;
}
