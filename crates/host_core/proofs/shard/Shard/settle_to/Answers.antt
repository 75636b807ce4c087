use Rattle.std.proofs.Common.{refl, subst, sym, arith}
use Rattle.host_core.specs.Turns.{AllStand}
use Rattle.host_core.specs.ShardView.{book_of}
use Rattle.host_core.specs.declared.ledger.Ledger.{Ledger}
use Rattle.host_core.proofs.Chaining.{with_chains}
use Rattle.host_core.proofs.Dating.{dated_later}
use Rattle.host_core.proofs.Limiting.{spare_more}
use Rattle.host_core.proofs.Standing.{lawful, stands-tick}
use Rattle.host_core.proofs.Meeting.{locked_ended}
use Rattle.host_core.proofs.Turning.{stand_ended}
use Rattle.host_core.proofs.shard.Shard.settle_to.Goals as goal

pub invariant_of-self : goal.invariant_of-self
invariant_of-self g c =
    let files = g.F.Store.files in
    let faults = g.F.Store.faults in
    let inside = c.self.inside in
    let ledger = inside.ledger in
    let tied = c.self.invariant.1 in
    let after : Ledger = record ledger { time = c.max-self-inside.result; rack = record ledger.rack { locks = c.settle.new.self } } in
    with_chains after (g.F.Store.notes inside.folder) (record (book_of (g.F.Store.notes inside.folder) inside) { time = c.max-self-inside.result; ticked = c.of.result.value }) (files inside.start.value) (files inside.folder) (faults inside.start.value) (faults inside.folder) refl (
    stands-tick (book_of (g.F.Store.notes inside.folder) inside) ledger (files inside.start.value) (files inside.folder) (faults inside.start.value) (faults inside.folder) c.args.moment
    _ _ _ c.requires c.max-self-inside.ensures c.settle.ensures.files c.of.ensures c.self.invariant.0
    ) (record {
      numbered = tied.numbered;
      once = tied.once;
      locked = locked_ended ledger.rack.files.items ledger.rack.locks _ ledger.time _ tied.locked (let is = c.max-self-inside.ensures in omega (arith, is)) c.settle.ensures.files c.settle.ensures.latest c.settle.ensures.chains;
      stand = subst (AllStand c.max-self-inside.result) (sym c.settle.ensures.files) (stand_ended ledger.rack.locks.files c.max-self-inside.result);
      spare = spare_more ledger.calls ledger.ids _ ledger.rack.locks c.settle.new.self c.settle.ensures.room c.settle.ensures.spare tied.spare;
      slots = tied.slots;
      opened = tied.opened;
      first = tied.first;
      ended = tied.ended;
      dated = dated_later ledger.rack.files.items _ _ _ ledger.time c.max-self-inside.result (let is = c.max-self-inside.ensures in omega (arith, is)) tied.dated;
    })

pub returns-clause-lawful : goal.returns-clause-lawful
returns-clause-lawful g c =
    let files = g.F.Store.files in
    let faults = g.F.Store.faults in
    let inside = c.self.inside in
    lawful _ inside.ledger.last _ inside.ledger.bytes
    (files inside.start.value) (files inside.folder) (faults inside.start.value) (faults inside.folder) (invariant_of-self g c).0
