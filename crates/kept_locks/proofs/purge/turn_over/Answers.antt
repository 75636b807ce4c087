use Rattle.std.proofs.Common.{List, sym, ap, ◌∙◌, arith}
use Rattle.wopi_model.specs.declared.locks.Spent.{Spent}
use Rattle.expiry_queue.specs.Chains.{spent_of}
use Rattle.kept_locks.specs.Refusals.{onto}
use Rattle.kept_locks.proofs.Parting.{taken_one, moved_one}
use Rattle.kept_locks.proofs.purge.turn_over.Goals as goal

pub rest-preserved : goal.rest-preserved
rest-preserved c =
    let first = c.args.chains.now in
    let now = c.rest.chains in
    let one = c.take-one.result.0 in
    let after = c.take-one.result.1 in
    let t = taken_one first now c.take-one.new.self c.args.chain c.rest.rest c.rest.kept after c.in-Some.place one c.rest.invariant.parts c.in-Some.is c.take-one.ensures.spent c.take-one.ensures.chain in
    let m = moved_one first now c.take-one.new.self c.add-kept.new.self c.args.chain c.rest.rest c.rest.kept after c.add-kept.result one t c.add-kept.ensures.chain in
    let longer = m.longer in
    let kept_long = m.kept_long in
    let taken = c.take-one.ensures.used in
    let added = c.add-kept.ensures.used in
    let freed = c.take-one.ensures.spare in
    let filled = c.add-kept.ensures.spare in
    let used = c.rest.invariant.used in
    let room = c.rest.invariant.room in
    record {
      parts = m.parts;
      ids = ap (onto (spent_of c.add-kept.new.self after)) m.kept_is ∙ sym (ap (λ (l : List Spent). onto l (spent_of now c.rest.kept)) m.rest_is) ∙ c.rest.invariant.ids;
      used = omega (arith, longer, kept_long, taken, added, used);
      room = omega (arith, taken, added, freed, filled, room);
      count = let counted = c.rest.invariant.count in let more = c.saturating_add-count.ensures in omega (arith, counted, more, kept_long);
    }
