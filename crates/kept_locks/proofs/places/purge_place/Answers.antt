use Rattle.std.proofs.Common.{◌≡◌, List, length, max, ap, arith}
use Rattle.wopi_model.specs.Settle.{still_spent}
use Rattle.wopi_model.specs.declared.locks.Spent.{Spent}
use Rattle.kept_locks.specs.Refusals.{shown_of}
use Rattle.kept_locks.specs.Ties.{latest_of, one_if, standings}
use Rattle.kept_locks.proofs.Counted.{left_put, short_any, short_held, short_put, shown_long}
use Rattle.kept_locks.proofs.Counting.{held_put, used_put}
use Rattle.kept_locks.proofs.Indexing.{indexed_put}
use Rattle.kept_locks.proofs.Latest.{as_late, latest_put}
use Rattle.kept_locks.proofs.Parting.{fewer_still}
use Rattle.kept_locks.proofs.Purging.{purges_put}
use Rattle.kept_locks.proofs.Renewing.{puts_set, place_found}
use Rattle.kept_locks.proofs.Tying.{own_put, waits_same}
use Rattle.kept_locks.proofs.Telling.{ready_put}
use Rattle.kept_locks.proofs.places.purge_place.Goals as goal

pub returns-clause-tied : goal.returns-clause-tied
returns-clause-tied c =
    let places = c.args.places.now.items in
    let was = c.index_mut.result.now in
    let now = c.purge_in.new.place in
    let at = place_found places c.args.number was c.requires.number c.index_mut.ensures.value in
    let puts = puts_set places c.args.number now c.requires.number in
    let same = c.purge_in.ensures.held in
    let held = held_put places _ c.args.number was now at puts in
    record {
      waits = waits_same places _ c.args.queue.now.waiting c.args.number was now c.requires.tied.waits at same puts;
      order = c.requires.tied.order;
      own = own_put places _ c.args.chains.now c.purge_in.new.chains c.args.number was now _ c.requires.tied.own at c.purge_in.ensures.goes.becomes puts;
      indexed = indexed_put places _ c.args.chains.now c.purge_in.new.chains c.args.index.now c.purge_in.new.index c.args.number was now _ c.requires.tied.own c.requires.tied.indexed
          at c.purge_in.ensures.goes.becomes puts c.purge_in.ensures.tells c.purge_in.ensures.only c.purge_in.ensures.index.others;
      room = omega (arith, c.requires.tied.room, c.purge_in.ensures.chains);
      held = omega (arith, held, ap one_if same, c.requires.tied.held);
      used = used_put places _ c.args.chains.now c.purge_in.new.chains c.args.number was now _ c.requires.tied.own at c.purge_in.ensures.goes.becomes puts c.purge_in.ensures.goes.counts c.requires.tied.used;
      short = short_put places _ c.args.chains.now c.purge_in.new.chains c.args.number was now _ c.requires.tied.own c.requires.tied.short at c.purge_in.ensures.goes.becomes puts
          (short_held c.purge_in.new.chains now.trail 0 (omega arith) now.held (c.purge_in.ensures.counted (short_any c.args.chains.now was.trail was.held (c.requires.tied.short c.args.number was at))));
      fits = let there = c.purge_in.ensures.goes.counts.room in let fits = c.requires.tied.fits in omega (arith, there, fits);
      few = omega (arith, puts.long, c.requires.tied.few);
    }

pub returns-clause-purges : goal.returns-clause-purges
returns-clause-purges c =
    let places = c.args.places.now.items in
    let was = c.index_mut.result.now in
    let at = place_found places c.args.number was c.requires.number c.index_mut.ensures.value in
    purges_put places _ c.args.chains.now c.purge_in.new.chains c.args.number was c.purge_in.new.place c.args.now c.requires.tied.own at c.purge_in.ensures.goes c.purge_in.ensures.held (c.purge_in.ensures.purged, c.purge_in.ensures.fresh)
    (puts_set places c.args.number c.purge_in.new.place c.requires.number)

pub returns-clause-latest : goal.returns-clause-latest
returns-clause-latest c =
    let places = c.args.places.now.items in
    let was = c.index_mut.result.now in
    let at = place_found places c.args.number was c.requires.number c.index_mut.ensures.value in
    let before = as_late places c.args.number was at in
    latest_put places _ c.args.number c.purge_in.new.place (max (latest_of places) c.args.now) (puts_set places c.args.number c.purge_in.new.place c.requires.number) (omega arith)
    (omega (arith, before, c.purge_in.ensures.as_of))

pub returns-clause-room : goal.returns-clause-room
returns-clause-room c =
    let there = c.purge_in.ensures.goes.counts.room in
    omega (arith, there)

pub returns-clause-left : goal.returns-clause-left
returns-clause-left c =
    let places = c.args.places.now.items in
    let chains = c.args.chains.now in
    let was = c.index_mut.result.now in
    let now = c.purge_in.new.place in
    let at = place_found places c.args.number was c.requires.number c.index_mut.ensures.value in
    let puts = puts_set places c.args.number now c.requires.number in
    let after = c.purge_in.new.chains in
    let is : length (shown_of after now.trail) ≡ length (still_spent (shown_of chains was.trail) c.args.now) = ap (λ (l : List Spent). length l) c.purge_in.ensures.goes.shows in
    let fewer = fewer_still (shown_of chains was.trail) c.args.now in
    let le = c.purge_in.ensures.left in
    let long = shown_long chains places c.args.number was at in
    left_put places _ c.args.number was now (standings chains places) at puts (omega (arith, le, is, fewer, long))

pub returns-clause-ready : goal.returns-clause-ready
returns-clause-ready c = λ ready.
    let places = c.args.places.now.items in
    let was = c.index_mut.result.now in
    let now = c.purge_in.new.place in
    let at = place_found places c.args.number was c.requires.number c.index_mut.ensures.value in
    let room = ready.1 in
    ready_put places _ c.args.queue.now c.args.queue.now c.args.index.now c.purge_in.new.index c.args.number was now 0 at (puts_set places c.args.number now c.requires.number) c.purge_in.ensures.index
    (omega (arith, room)) ready
