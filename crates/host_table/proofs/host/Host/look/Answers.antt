use Rattle.std.proofs.Common.{◌≡◌, sym, ◌∙◌, arith}
use Rattle.host_table.specs.Views.{pass_of}
use Rattle.host_table.proofs.Turning.{lost_of}
use Rattle.host_table.proofs.Calling.{seat_is, pass_glanced, own_glanced, same_glanced, seen_glanced, looks_then, lists_then, notes_then}
use Rattle.host_table.proofs.host.Host.look.Goals as goal

pub list_in_turn-requires-clause-free : goal.list_in_turn-requires-clause-free
list_in_turn-requires-clause-free g c =
    let is : c.from-place.result ≡ c.args.shard = c.from-place.ensures in
    let seat = seat_is (pass_of c.pass.inside) c.from-place.result c.index_mut-seat.result.now c.index_mut-seat.result.now c.pass.invariant (omega arith) c.index_mut-seat.ensures.value in seat.free

pub invariant_of-pass : goal.invariant_of-pass
invariant_of-pass g c =
    let is : c.from-place.result ≡ c.args.shard = c.from-place.ensures in
    pass_glanced (pass_of c.pass.inside) c.from-place.result c.index_mut-seat.result.now c.list_in_turn.new.seat c.pass.invariant (omega arith) c.index_mut-seat.ensures.value
    c.list_in_turn.new.last c.list_in_turn.ensures.seen c.list_in_turn.ensures.last c.list_in_turn.ensures.glances

pub returns-clause-listed : goal.returns-clause-listed
returns-clause-listed g c =
    let is : c.from-place.result ≡ c.args.shard = c.from-place.ensures in
    lists_then (pass_of c.pass.inside) c.from-place.result c.index_mut-seat.result.now c.list_in_turn.new.seat c.pass.invariant (omega arith) c.index_mut-seat.ensures.value
    c.list_in_turn.new.last c.list_in_turn.ensures.seen c.list_in_turn.ensures.last c.list_in_turn.ensures.glances c.args.shard is c.list_in_turn.result.0 c.list_in_turn.ensures.shows

pub returns-clause-told : goal.returns-clause-told
returns-clause-told g c =
    let is : c.from-place.result ≡ c.args.shard = c.from-place.ensures in let told = c.list_in_turn.ensures.told in (
      told.0,
      notes_then (pass_of c.pass.inside) c.from-place.result c.index_mut-seat.result.now c.list_in_turn.new.seat c.pass.invariant (omega arith) c.index_mut-seat.ensures.value
          c.list_in_turn.new.last c.list_in_turn.ensures.seen c.list_in_turn.ensures.last c.list_in_turn.ensures.glances c.args.shard is (g.F.Store.notes told.0) told.1,
      told.2,
    )

pub returns-clause-loses : goal.returns-clause-loses
returns-clause-loses g c = let told = c.list_in_turn.ensures.told in λ untold. g.F.Store.loses_is told.0 (lost_of (g.F.Store.lost told.0) (sym told.2 ∙ untold))

pub returns-clause-looks : goal.returns-clause-looks
returns-clause-looks g c =
    let is : c.from-place.result ≡ c.args.shard = c.from-place.ensures in
    rw (← c.pass.view_is) (looks_then (pass_of c.pass.inside) c.from-place.result c.index_mut-seat.result.now c.list_in_turn.new.seat c.pass.invariant (omega arith) c.index_mut-seat.ensures.value
    c.list_in_turn.new.last c.list_in_turn.ensures.seen c.list_in_turn.ensures.last c.list_in_turn.ensures.glances c.args.shard is)

pub returns-clause-own : goal.returns-clause-own
returns-clause-own g c =
    let is : c.from-place.result ≡ c.args.shard = c.from-place.ensures in
    rw (← c.pass.view_is) (own_glanced (pass_of c.pass.inside) c.from-place.result c.index_mut-seat.result.now c.list_in_turn.new.seat c.pass.invariant (omega arith) c.index_mut-seat.ensures.value
    c.list_in_turn.new.last c.list_in_turn.ensures.seen c.list_in_turn.ensures.last c.list_in_turn.ensures.glances)

pub returns-clause-same : goal.returns-clause-same
returns-clause-same g c =
    let is : c.from-place.result ≡ c.args.shard = c.from-place.ensures in
    rw (← c.pass.view_is) (same_glanced (pass_of c.pass.inside) c.from-place.result c.index_mut-seat.result.now c.list_in_turn.new.seat c.pass.invariant (omega arith) c.index_mut-seat.ensures.value
    c.list_in_turn.new.last c.list_in_turn.ensures.seen c.list_in_turn.ensures.last c.list_in_turn.ensures.glances)

pub returns-clause-seen : goal.returns-clause-seen
returns-clause-seen g c =
    let is : c.from-place.result ≡ c.args.shard = c.from-place.ensures in
    seen_glanced (pass_of c.pass.inside) c.from-place.result c.index_mut-seat.result.now c.list_in_turn.new.seat c.pass.invariant (omega arith) c.index_mut-seat.ensures.value
    c.list_in_turn.new.last c.list_in_turn.ensures.seen c.list_in_turn.ensures.last c.list_in_turn.ensures.glances
