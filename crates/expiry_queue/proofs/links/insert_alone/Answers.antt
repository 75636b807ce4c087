use Rattle.std.proofs.Common.{◌≤◌, length, arith}
use Rattle.expiry_queue.specs.Links.{waiting_in, count}
use Rattle.expiry_queue.proofs.Linked.{linked_beside, free_key}
use Rattle.expiry_queue.proofs.links.insert_alone.Goals as goal

pub returns-clause-linked : goal.returns-clause-linked
returns-clause-linked c =
    let old = c.args.links.now in
    let fits : length (waiting_in old) ≤ count old.nodes.slots = c.requires.linked.fits in
    let len = c.insert_reserved.ensures.len in
    linked_beside old c.insert_reserved.new.self c.insert_reserved.result (waiting_in old) c.requires.linked
    (free_key old c.insert_reserved.result (waiting_in old) c.requires.linked c.insert_reserved.ensures.was_vacant) c.insert_reserved.ensures.updates.others (omega (arith, len, fits))

pub returns-clause-free : goal.returns-clause-free
returns-clause-free c = free_key c.args.links.now c.insert_reserved.result (waiting_in c.args.links.now) c.requires.linked c.insert_reserved.ensures.was_vacant
