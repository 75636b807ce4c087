use Rattle.std.proofs.Common.{arith, ap, sym, ◌∙◌, ◌≡◌, ◌∷◌, [], ◌++◌, List, take, append_assoc}
use Rattle.host_table.specs.declared.journal.Spot.{Spot}
use Rattle.host_table.specs.Journal.{spots_from}
use Rattle.host_table.proofs.Listing.{spots_more}
use Rattle.host_table.proofs.closing.list_spots.Goals as goal

pub loop-place-preserved : goal.loop-place-preserved
loop-place-preserved g c =
    let inv = c.loop-place.invariant in let k = c.loop-place.place in let made = c.args.past.now.made in let one = c.in-Some.entry.now in
    let spot : Spot = record { stamp = c.stamp-stamp.result; shard = c.args.shard; place = k } in
    let same : spot ≡ record { stamp = one.step.stamp; shard = c.args.shard; place = k } = λ i. record { stamp = c.stamp-stamp.ensures i; shard = c.args.shard; place = k } in
    let p = c.push_reserved.ensures.len in let q = c.push_reserved.ensures.capacity in let len = inv.len in
    record {
      listed = c.push_reserved.ensures.items ∙ ((λ i. inv.listed i ++ same i ∷ []) ∙ (append_assoc c.args.spots.now.items (spots_from c.args.shard 0 (take k made)) (record { stamp = one.step.stamp; shard = c.args.shard; place = k } ∷ [])
          ∙ ap (λ (z : List Spot). c.args.spots.now.items ++ z) (spots_more c.args.shard k made one (sym c.in-Some.ensures))));
      len = omega arith;
      capacity = q ∙ inv.capacity;
    }
