use Rattle.std.proofs.Common.{None, max, refl, sym, subst, ◌∙◌, arith}
use Rattle.std.specs.Prelude.{option_map}
use Rattle.kept_locks.specs.Ties.{GoesOn, latest_of, lock_of, renewed, standings}
use Rattle.kept_locks.proofs.Counted.{left_put, short_any, short_held, short_put, shown_long}
use Rattle.kept_locks.proofs.Counting.{held_put, used_put}
use Rattle.kept_locks.proofs.Tying.{own_put}
use Rattle.kept_locks.proofs.Falling.{beside_put, falls_put}
use Rattle.kept_locks.proofs.Indexing.{indexed_put}
use Rattle.kept_locks.proofs.Latest.{as_late, latest_put}
use Rattle.kept_locks.proofs.Setting.{queued, may_follow, files_set}
use Rattle.kept_locks.proofs.Renewing.{puts_set, place_found, renewed_is}
use Rattle.kept_locks.proofs.Telling.{ready_put}
use Rattle.kept_locks.proofs.places.renew_lock.Goals as goal

pub renew_in-requires-clause-queued : goal.renew_in-requires-clause-queued
renew_in-requires-clause-queued c =
    let at = place_found c.args.places.now.items c.args.number c.index_mut.result.now c.requires.number c.index_mut.ensures.value in
    queued c.args.places.now.items c.args.queue.now.waiting c.args.number c.index_mut.result.now c.requires.tied.waits c.requires.tied.order.keys at c.index_mut.result.now.held refl

pub renew_in-requires-clause-since : goal.renew_in-requires-clause-since
renew_in-requires-clause-since c =
    let places = c.args.places.now.items in
    let was = c.index_mut.result.now in
    let at = place_found places c.args.number was c.requires.number c.index_mut.ensures.value in
    let goes = subst (GoesOn (standings c.args.chains.now places) c.args.number) (renewed_is c.args.since c.args.until c.args.number c.args.chains.now places was at) c.requires.since in
    may_follow places c.args.chains.now c.args.queue.now.waiting c.args.number was c.requires.tied.waits c.requires.tied.order.keys at
    (option_map (renewed c.args.since c.args.until) (option_map lock_of was.held)) goes was.held refl

pub returns-clause-tied : goal.returns-clause-tied
returns-clause-tied c =
    let places = c.args.places.now.items in
    let was = c.index_mut.result.now in
    let now = c.renew_in.new.place in
    let at = place_found places c.args.number was c.requires.number c.index_mut.ensures.value in
    let puts = puts_set places c.args.number now c.requires.number in
    record {
      waits = c.renew_in.ensures.queue.waits places _ was now c.requires.tied.waits at refl refl puts;
      order = c.renew_in.ensures.queue.order;
      own = own_put places _ c.args.chains.now c.renew_in.new.chains c.args.number was now _ c.requires.tied.own at c.renew_in.ensures.goes.becomes puts;
      indexed = indexed_put places _ c.args.chains.now c.renew_in.new.chains c.args.index.now c.renew_in.new.index c.args.number was now _ c.requires.tied.own c.requires.tied.indexed
          at c.renew_in.ensures.goes.becomes puts c.renew_in.ensures.tells c.renew_in.ensures.only c.renew_in.ensures.index.others;
      room = omega (arith, c.requires.tied.room, c.renew_in.ensures.long, c.renew_in.ensures.chains);
      held = omega (arith, held_put places _ c.args.number was now at puts, c.renew_in.ensures.queue.count, c.requires.tied.held);
      used = used_put places _ c.args.chains.now c.renew_in.new.chains c.args.number was now _ c.requires.tied.own at c.renew_in.ensures.goes.becomes puts c.renew_in.ensures.goes.counts c.requires.tied.used;
      short = short_put places _ c.args.chains.now c.renew_in.new.chains c.args.number was now _ c.requires.tied.own c.requires.tied.short at c.renew_in.ensures.goes.becomes puts
          (short_held c.renew_in.new.chains now.trail 0 (omega arith) now.held (c.renew_in.ensures.counted (short_any c.args.chains.now was.trail was.held (c.requires.tied.short c.args.number was at))));
      fits = let there = c.renew_in.ensures.goes.counts.room in let fits = c.requires.tied.fits in omega (arith, there, fits);
      few = omega (arith, puts.long, c.requires.tied.few);
    }

pub returns-clause-files : goal.returns-clause-files
returns-clause-files c =
    let places = c.args.places.now.items in
    let was = c.index_mut.result.now in
    let at = place_found places c.args.number was c.requires.number c.index_mut.ensures.value in
    files_set places _ c.args.chains.now c.renew_in.new.chains c.args.number was c.renew_in.new.place _ None c.args.now c.requires.tied.own at
    c.renew_in.ensures.goes (puts_set places c.args.number c.renew_in.new.place c.requires.number)
    (c.renew_in.ensures.queue.lock_is ∙ sym (renewed_is c.args.since c.args.until c.args.number c.args.chains.now places was at))

pub returns-clause-latest : goal.returns-clause-latest
returns-clause-latest c =
    let places = c.args.places.now.items in
    let was = c.index_mut.result.now in
    let at = place_found places c.args.number was c.requires.number c.index_mut.ensures.value in
    let before = as_late places c.args.number was at in
    latest_put places _ c.args.number c.renew_in.new.place (max (latest_of places) c.args.now) (puts_set places c.args.number c.renew_in.new.place c.requires.number) (omega arith)
    (omega (arith, before, c.renew_in.ensures.as_of))

pub returns-clause-spare : goal.returns-clause-spare
returns-clause-spare c = omega (arith, c.renew_in.ensures.long, c.renew_in.ensures.chains, c.renew_in.ensures.spare)

pub returns-clause-room : goal.returns-clause-room
returns-clause-room c =
    let here = c.renew_in.ensures.room in
    let there = c.renew_in.ensures.goes.counts.room in
    omega (arith, here, there)

pub returns-clause-left : goal.returns-clause-left
returns-clause-left c =
    let places = c.args.places.now.items in
    let was = c.index_mut.result.now in
    let now = c.renew_in.new.place in
    let at = place_found places c.args.number was c.requires.number c.index_mut.ensures.value in
    let puts = puts_set places c.args.number now c.requires.number in
    let le = c.renew_in.ensures.left in
    let long = shown_long c.renew_in.new.chains _ c.args.number now puts.here in
    left_put places _ c.args.number was now _ at puts (omega (arith, le, long))

pub returns-clause-falls : goal.returns-clause-falls
returns-clause-falls c =
    let places = c.args.places.now.items in
    let was = c.index_mut.result.now in
    let now = c.renew_in.new.place in
    let at = place_found places c.args.number was c.requires.number c.index_mut.ensures.value in
    let puts = puts_set places c.args.number now c.requires.number in
    falls_put places _ c.args.chains.now c.renew_in.new.chains c.args.number was now _ c.requires.tied.own at c.renew_in.ensures.goes.becomes puts c.renew_in.ensures.left c.renew_in.ensures.falls

pub returns-clause-ready : goal.returns-clause-ready
returns-clause-ready c = λ ready.
    let places = c.args.places.now.items in
    let was = c.index_mut.result.now in
    let now = c.renew_in.new.place in
    let at = place_found places c.args.number was c.requires.number c.index_mut.ensures.value in
    let long = c.renew_in.ensures.long in
    let room = ready.1 in
    ready_put places _ c.args.queue.now c.renew_in.new.queue c.args.index.now c.renew_in.new.index c.args.number was now 0 at (puts_set places c.args.number now c.requires.number) c.renew_in.ensures.index
    (omega (arith, long, room)) ready

pub returns-clause-taken : goal.returns-clause-taken
returns-clause-taken c =
    let long = c.renew_in.ensures.long in
    let room = c.renew_in.ensures.goes.counts.room in
    let spare = c.renew_in.ensures.chains in
    omega (arith, long, room, spare)

pub returns-clause-beside : goal.returns-clause-beside
returns-clause-beside c =
    let places = c.args.places.now.items in
    let was = c.index_mut.result.now in
    let now = c.renew_in.new.place in
    let at = place_found places c.args.number was c.requires.number c.index_mut.ensures.value in
    let puts = puts_set places c.args.number now c.requires.number in
    beside_put places _ c.args.chains.now c.renew_in.new.chains c.args.number was now _ c.requires.tied.own at c.renew_in.ensures.goes.becomes puts
