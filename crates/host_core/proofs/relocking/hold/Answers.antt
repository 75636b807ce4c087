use Rattle.std.proofs.Common.{◌≡◌, ◌<◌, ◌≤◌, ℕ, length, arith}
use Rattle.host_core.proofs.Regains.{all_held, shown_at}
use Rattle.host_core.proofs.relocking.hold.Goals as goal

pub put_all_ids-requires-clause-live : goal.put_all_ids-requires-clause-live
put_all_ids-requires-clause-live c = λ number. shown_at c.args.now c.args.told.now.items number c.requires.settled

pub put_turns-requires-clause-live : goal.put_turns-requires-clause-live
put_turns-requires-clause-live c = λ number. shown_at c.args.now c.args.told.now.items number c.requires.settled

pub returns : goal.returns
returns c =
    let told = c.args.told.now.items in
    let long = c.in_ok-locks.ensures.long in
    let one = c.put_all_ids.ensures.long in
    let two = c.put_turns.ensures.long in
    let room = c.in_ok-locks.ensures.room in
    let more = c.put_all_ids.ensures.room in
    let most = c.put_turns.ensures.room in
    all_held told c.args.now c.args.ids c.put_turns.new.locks c.put_turns.ensures.part (c.are_all_held.ensures c.if-not-are_all_held.false) c.requires.settled
    (omega (arith, long, one, two, c.len.ensures, c.args.told.now.ok.0)) c.put_turns.ensures.latest c.put_turns.ensures.chains (omega (arith, room, more, most))
