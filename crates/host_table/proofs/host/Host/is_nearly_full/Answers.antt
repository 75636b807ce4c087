use Rattle.std.proofs.Common.{◌≡◌, arith}
use Rattle.host_table.specs.Views.{pass_of}
use Rattle.host_table.proofs.Calling.{seat_is, pass_glanced, own_glanced, same_glanced, seen_glanced, looks_then, weighed_then}
use Rattle.host_table.proofs.host.Host.is_nearly_full.Goals as goal

pub weigh_in_turn-requires-clause-free : goal.weigh_in_turn-requires-clause-free
weigh_in_turn-requires-clause-free g c =
    let is : c.from-place.result ≡ c.args.shard = c.from-place.ensures in
    let seat = seat_is (pass_of c.pass.inside) c.from-place.result c.index_mut-seat.result.now c.index_mut-seat.result.now c.pass.invariant (omega arith) c.index_mut-seat.ensures.value in seat.free

pub invariant_of-pass : goal.invariant_of-pass
invariant_of-pass g c =
    let is : c.from-place.result ≡ c.args.shard = c.from-place.ensures in
    pass_glanced (pass_of c.pass.inside) c.from-place.result c.index_mut-seat.result.now c.weigh_in_turn.new.seat c.pass.invariant (omega arith) c.index_mut-seat.ensures.value
    c.weigh_in_turn.new.last c.weigh_in_turn.ensures.seen c.weigh_in_turn.ensures.last c.weigh_in_turn.ensures.glances

pub returns-clause-value : goal.returns-clause-value
returns-clause-value g c =
    let is : c.from-place.result ≡ c.args.shard = c.from-place.ensures in
    weighed_then (pass_of c.pass.inside) c.from-place.result c.index_mut-seat.result.now c.weigh_in_turn.new.seat c.pass.invariant (omega arith) c.index_mut-seat.ensures.value
    c.weigh_in_turn.new.last c.weigh_in_turn.ensures.seen c.weigh_in_turn.ensures.last c.weigh_in_turn.ensures.glances c.args.shard is c.weigh_in_turn.result c.weigh_in_turn.ensures.tells

pub returns-clause-looks : goal.returns-clause-looks
returns-clause-looks g c =
    let is : c.from-place.result ≡ c.args.shard = c.from-place.ensures in
    rw (← c.pass.view_is) (looks_then (pass_of c.pass.inside) c.from-place.result c.index_mut-seat.result.now c.weigh_in_turn.new.seat c.pass.invariant (omega arith) c.index_mut-seat.ensures.value
    c.weigh_in_turn.new.last c.weigh_in_turn.ensures.seen c.weigh_in_turn.ensures.last c.weigh_in_turn.ensures.glances c.args.shard is)

pub returns-clause-own : goal.returns-clause-own
returns-clause-own g c =
    let is : c.from-place.result ≡ c.args.shard = c.from-place.ensures in
    rw (← c.pass.view_is) (own_glanced (pass_of c.pass.inside) c.from-place.result c.index_mut-seat.result.now c.weigh_in_turn.new.seat c.pass.invariant (omega arith) c.index_mut-seat.ensures.value
    c.weigh_in_turn.new.last c.weigh_in_turn.ensures.seen c.weigh_in_turn.ensures.last c.weigh_in_turn.ensures.glances)

pub returns-clause-same : goal.returns-clause-same
returns-clause-same g c =
    let is : c.from-place.result ≡ c.args.shard = c.from-place.ensures in
    rw (← c.pass.view_is) (same_glanced (pass_of c.pass.inside) c.from-place.result c.index_mut-seat.result.now c.weigh_in_turn.new.seat c.pass.invariant (omega arith) c.index_mut-seat.ensures.value
    c.weigh_in_turn.new.last c.weigh_in_turn.ensures.seen c.weigh_in_turn.ensures.last c.weigh_in_turn.ensures.glances)

pub returns-clause-seen : goal.returns-clause-seen
returns-clause-seen g c =
    let is : c.from-place.result ≡ c.args.shard = c.from-place.ensures in
    seen_glanced (pass_of c.pass.inside) c.from-place.result c.index_mut-seat.result.now c.weigh_in_turn.new.seat c.pass.invariant (omega arith) c.index_mut-seat.ensures.value
    c.weigh_in_turn.new.last c.weigh_in_turn.ensures.seen c.weigh_in_turn.ensures.last c.weigh_in_turn.ensures.glances
