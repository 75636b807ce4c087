use Rattle.std.proofs.Common.{◌≡◌, ◌+◌, length, Some, is_some, option_map, sym, ap, ◌∙◌, arith}
use Rattle.expiry_queue.specs.Waiting.{without, file_of}
use Rattle.expiry_queue.specs.Links.{waiting_in, count}
use Rattle.expiry_queue.proofs.Lists.{splits, order_without, free_without, length_without, entry_is}
use Rattle.expiry_queue.proofs.Linked.{waiting_is, in_order, is_there, cut, linked_beside}
use Rattle.expiry_queue.proofs.links.take_out.Goals as goal

pub remove-node-requires : goal.remove-node-requires
remove-node-requires c =
    ap is_some (c.unlink.ensures.node ∙ (is_there c.args.links.now c.args.key (waiting_in c.args.links.now) c.requires.order.linked c.requires.live).1)

pub returns-clause-file : goal.returns-clause-file
returns-clause-file c =
    let old = waiting_in c.args.links.now in
    let at = cut c.args.links.now c.args.key c.remove-node.result old c.requires.order.linked c.requires.live (sym c.unlink.ensures.node ∙ c.remove-node.ensures.value) in
    ap (option_map file_of) (entry_is c.args.key old at.at) ∙ ap Some (sym at.file_is)

pub returns-clause-waiting : goal.returns-clause-waiting
returns-clause-waiting c =
    let old = waiting_in c.args.links.now in
    let rest = without c.args.key old in
    let s = splits c.args.key old c.requires.order.linked.keys c.requires.live in
    let all : count c.args.links.now.nodes.slots ≡ length old = c.requires.order.all in
    let one_less : length old ≡ length rest + 1 = length_without c.args.key old s in
    let unlinked : count c.unlink.new.links.nodes.slots ≡ count c.args.links.now.nodes.slots = c.unlink.ensures.count in
    let removed : count c.remove-node.new.self.slots + 1 ≡ count c.unlink.new.links.nodes.slots = c.remove-node.ensures.len in
    let linked = linked_beside c.unlink.new.links c.remove-node.new.self c.args.key rest c.unlink.ensures.linked (free_without c.args.key old s)
    c.remove-node.ensures.updates.others (omega (arith, all, one_less, unlinked, removed)) in
    waiting_is (record { nodes = c.remove-node.new.self; first = c.unlink.new.links.first; last = c.unlink.new.links.last }) rest linked

pub returns-clause-order : goal.returns-clause-order
returns-clause-order c =
    let old = waiting_in c.args.links.now in
    let rest = without c.args.key old in
    let s = splits c.args.key old c.requires.order.linked.keys c.requires.live in
    let all : count c.args.links.now.nodes.slots ≡ length old = c.requires.order.all in
    let one_less : length old ≡ length rest + 1 = length_without c.args.key old s in
    let unlinked : count c.unlink.new.links.nodes.slots ≡ count c.args.links.now.nodes.slots = c.unlink.ensures.count in
    let removed : count c.remove-node.new.self.slots + 1 ≡ count c.unlink.new.links.nodes.slots = c.remove-node.ensures.len in
    let linked = linked_beside c.unlink.new.links c.remove-node.new.self c.args.key rest c.unlink.ensures.linked (free_without c.args.key old s)
    c.remove-node.ensures.updates.others (omega (arith, all, one_less, unlinked, removed)) in
    in_order (record { nodes = c.remove-node.new.self; first = c.unlink.new.links.first; last = c.unlink.new.links.last }) rest linked
    (order_without c.args.key old c.requires.order.order) (omega (arith, all, one_less, unlinked, removed))
