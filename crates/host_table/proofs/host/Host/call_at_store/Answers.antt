use Rattle.std.proofs.Common.{◌≡◌, ◌∙◌, arith}
use Rattle.wopi_text.specs.FileName.{shard_of}
use Rattle.host_core.specs.Caller.{answer_of}
use Rattle.host_table.specs.Views.{pass_of}
use Rattle.host_table.proofs.Calling.{seat_is, based_call, pass_then, frames_then, same_then, seen_all_then, makes_then, noted_then, refuses_then, own_then, own_stays_then}
use Rattle.host_table.proofs.Turning.{onerr_placed}
use Rattle.host_table.proofs.host.Host.call_at_store.Goals as goal

pub turn-requires-clause-free : goal.turn-requires-clause-free
turn-requires-clause-free g c =
    let home : c.from-shard.result ≡ shard_of c.args.call.now.name = c.from-shard.ensures ∙ c.shard.ensures in
    let seat = seat_is (pass_of c.pass.inside) c.from-shard.result c.index_mut-seat.result.now c.index_mut-seat.result.now c.pass.invariant (omega arith) c.index_mut-seat.ensures.value in seat.free

pub turn-requires-clause-based : goal.turn-requires-clause-based
turn-requires-clause-based g c =
    let home : c.from-shard.result ≡ shard_of c.args.call.now.name = c.from-shard.ensures ∙ c.shard.ensures in
    let seat = seat_is (pass_of c.pass.inside) c.from-shard.result c.index_mut-seat.result.now c.index_mut-seat.result.now c.pass.invariant (omega arith) c.index_mut-seat.ensures.value in
    based_call (pass_of c.pass.inside) c.from-shard.result c.index_mut-seat.result.now c.args.call.now.name seat home

pub invariant_of-pass : goal.invariant_of-pass
invariant_of-pass g c =
    let home : c.from-shard.result ≡ shard_of c.args.call.now.name = c.from-shard.ensures ∙ c.shard.ensures in
    pass_then (pass_of c.pass.inside) c.from-shard.result c.index_mut-seat.result.now c.turn.new.seat c.pass.invariant (omega arith) c.index_mut-seat.ensures.value
    c.turn.new.last c.args.call.now c.args.moment home c.turn.ensures.seen c.turn.ensures.last
    (answer_of c.turn.result.0 c.turn.new.call c.turn.new.carried) c.turn.ensures.made c.turn.ensures.refused

pub returns-clause-made : goal.returns-clause-made
returns-clause-made g c =
    let home : c.from-shard.result ≡ shard_of c.args.call.now.name = c.from-shard.ensures ∙ c.shard.ensures in
    rw (← c.pass.view_is) (makes_then (pass_of c.pass.inside) c.from-shard.result c.index_mut-seat.result.now c.turn.new.seat c.pass.invariant (omega arith) c.index_mut-seat.ensures.value
    c.turn.new.last c.args.call.now c.args.moment home c.turn.ensures.seen c.turn.ensures.last
    (answer_of c.turn.result.0 c.turn.new.call c.turn.new.carried) c.turn.ensures.made c.turn.ensures.refused)

pub returns-clause-refused : goal.returns-clause-refused
returns-clause-refused g c =
    let home : c.from-shard.result ≡ shard_of c.args.call.now.name = c.from-shard.ensures ∙ c.shard.ensures in
    rw (← c.pass.view_is) (refuses_then (pass_of c.pass.inside) c.from-shard.result c.index_mut-seat.result.now c.turn.new.seat c.pass.invariant (omega arith) c.index_mut-seat.ensures.value
    c.turn.new.last c.args.call.now c.args.moment home c.turn.ensures.seen c.turn.ensures.last
    (answer_of c.turn.result.0 c.turn.new.call c.turn.new.carried) c.turn.ensures.made c.turn.ensures.refused)

pub returns-clause-frame : goal.returns-clause-frame
returns-clause-frame g c =
    let home : c.from-shard.result ≡ shard_of c.args.call.now.name = c.from-shard.ensures ∙ c.shard.ensures in
    rw (← c.pass.view_is) (frames_then (pass_of c.pass.inside) c.from-shard.result c.index_mut-seat.result.now c.turn.new.seat c.pass.invariant (omega arith) c.index_mut-seat.ensures.value
    c.turn.new.last c.args.call.now c.args.moment home c.turn.ensures.seen c.turn.ensures.last
    (answer_of c.turn.result.0 c.turn.new.call c.turn.new.carried) c.turn.ensures.made c.turn.ensures.refused)

pub returns-clause-own : goal.returns-clause-own
returns-clause-own g c =
    let home : c.from-shard.result ≡ shard_of c.args.call.now.name = c.from-shard.ensures ∙ c.shard.ensures in
    rw (← c.pass.view_is) (own_then (pass_of c.pass.inside) c.from-shard.result c.index_mut-seat.result.now c.turn.new.seat c.pass.invariant (omega arith) c.index_mut-seat.ensures.value
    c.turn.new.last c.args.call.now c.args.moment home c.turn.ensures.seen c.turn.ensures.last
    (answer_of c.turn.result.0 c.turn.new.call c.turn.new.carried) c.turn.ensures.made c.turn.ensures.refused)

pub returns-clause-none : goal.returns-clause-none
returns-clause-none g c =
    let home : c.from-shard.result ≡ shard_of c.args.call.now.name = c.from-shard.ensures ∙ c.shard.ensures in
    rw (← c.pass.view_is) (onerr_placed c.turn.result.0 c.turn.new.call c.turn.new.carried _ (own_stays_then (pass_of c.pass.inside) c.from-shard.result c.index_mut-seat.result.now c.turn.new.seat c.pass.invariant (omega arith) c.index_mut-seat.ensures.value
    c.turn.new.last c.args.call.now c.args.moment home c.turn.ensures.seen c.turn.ensures.last
    (answer_of c.turn.result.0 c.turn.new.call c.turn.new.carried) c.turn.ensures.made c.turn.ensures.refused))

pub returns-clause-same : goal.returns-clause-same
returns-clause-same g c =
    let home : c.from-shard.result ≡ shard_of c.args.call.now.name = c.from-shard.ensures ∙ c.shard.ensures in
    rw (← c.pass.view_is) (same_then (pass_of c.pass.inside) c.from-shard.result c.index_mut-seat.result.now c.turn.new.seat c.pass.invariant (omega arith) c.index_mut-seat.ensures.value
    c.turn.new.last c.args.call.now c.args.moment home c.turn.ensures.seen c.turn.ensures.last
    (answer_of c.turn.result.0 c.turn.new.call c.turn.new.carried) c.turn.ensures.made c.turn.ensures.refused)

pub returns-clause-seen : goal.returns-clause-seen
returns-clause-seen g c =
    let home : c.from-shard.result ≡ shard_of c.args.call.now.name = c.from-shard.ensures ∙ c.shard.ensures in
    seen_all_then (pass_of c.pass.inside) c.from-shard.result c.index_mut-seat.result.now c.turn.new.seat c.pass.invariant (omega arith) c.index_mut-seat.ensures.value
    c.turn.new.last c.args.call.now c.args.moment home c.turn.ensures.seen c.turn.ensures.last
    (answer_of c.turn.result.0 c.turn.new.call c.turn.new.carried) c.turn.ensures.made c.turn.ensures.refused

pub returns-clause-noted : goal.returns-clause-noted
returns-clause-noted g c =
    let home : c.from-shard.result ≡ shard_of c.args.call.now.name = c.from-shard.ensures ∙ c.shard.ensures in
    let notes = g.F.Store.notes in
    noted_then (pass_of c.pass.inside) c.from-shard.result c.index_mut-seat.result.now c.turn.new.seat c.pass.invariant (omega arith) c.index_mut-seat.ensures.value
    c.turn.new.last c.args.call.now c.args.moment home c.turn.ensures.seen c.turn.ensures.last (notes c.turn.result.1.value) c.turn.ensures.noted
