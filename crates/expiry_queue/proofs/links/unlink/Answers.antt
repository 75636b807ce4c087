use Rattle.std.proofs.Common.{is_some, ap}
use Rattle.expiry_queue.specs.Links.{waiting_in, with_after}
use Rattle.expiry_queue.proofs.Linked.{cut, is_there, there_before, there_after, linked_without}
use Rattle.expiry_queue.proofs.links.unlink.Goals as goal

pub index-node-requires : goal.index-node-requires
index-node-requires c = ap is_some (is_there c.args.links.now c.args.key (waiting_in c.args.links.now) c.requires.linked c.requires.live).1

pub set_after-requires : goal.set_after-requires
set_after-requires c =
    there_before c.args.links.now.nodes.slots c.args.key (waiting_in c.args.links.now) c.index-node.result.now
    (cut c.args.links.now c.args.key c.index-node.result.now (waiting_in c.args.links.now) c.requires.linked c.requires.live c.index-node.ensures)

pub set_before-requires : goal.set_before-requires
set_before-requires c =
    there_after c.args.links.now.nodes c.set_after.new.nodes c.args.key (waiting_in c.args.links.now) c.index-node.result.now (with_after c.index-node.result.now.after)
    (cut c.args.links.now c.args.key c.index-node.result.now (waiting_in c.args.links.now) c.requires.linked c.requires.live c.index-node.ensures) c.set_after.ensures

pub returns-clause-linked : goal.returns-clause-linked
returns-clause-linked c =
    (linked_without c.args.links.now (record { nodes = c.set_before.new.nodes; first = c.end_of-links.result; last = c.end_of-links-2.result }) c.set_after.new.nodes c.args.key
    c.index-node.result.now (waiting_in c.args.links.now) c.requires.linked c.requires.live c.index-node.ensures
    c.set_after.ensures c.set_before.ensures c.end_of-links.ensures c.end_of-links-2.ensures).0

pub returns-clause-node : goal.returns-clause-node
returns-clause-node c =
    (linked_without c.args.links.now (record { nodes = c.set_before.new.nodes; first = c.end_of-links.result; last = c.end_of-links-2.result }) c.set_after.new.nodes c.args.key
    c.index-node.result.now (waiting_in c.args.links.now) c.requires.linked c.requires.live c.index-node.ensures
    c.set_after.ensures c.set_before.ensures c.end_of-links.ensures c.end_of-links-2.ensures).1
