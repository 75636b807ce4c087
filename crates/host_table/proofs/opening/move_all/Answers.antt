use Rattle.std.proofs.Common.{arith, ap, ◌∙◌, ◌≡◌, ◌+◌, length}
use Rattle.std.specs.Vec.Iter.{into_iter_items}
use Rattle.host_table.proofs.Ending.{moved_one}
use Rattle.host_table.proofs.opening.move_all.Goals as goal

pub loop-item-preserved : goal.loop-item-preserved
loop-item-preserved g c =
    let inv = c.loop-item.invariant in let len = inv.len in let room' = inv.room in let l = c.in-Some.ensures.len in
    let p = c.push_reserved.ensures.len in let k = c.push_reserved.ensures.capacity in
    let ll : length (into_iter_items c.loop-item.rest) ≡ length (into_iter_items c.next.new.self) + 1 = ap length c.in-Some.ensures.items ∙ omega arith in
    record {
      same = moved_one _ _ _ _ _ _ inv.same c.in-Some.ensures.items c.push_reserved.ensures.items;
      len = omega arith;
      room = omega arith;
    }
