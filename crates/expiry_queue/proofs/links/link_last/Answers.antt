use Rattle.std.proofs.Common.{◌≡◌, Some, None, is_some, sym, ap, subst, refl, arith}
use Rattle.slab.specs.Slab.{Slab, Updates, with_value}
use Rattle.slab.proofs.SlabLemmas.{Updates-with_value}
use Rattle.expiry_queue.specs.declared.links.Node.{Node}
use Rattle.expiry_queue.specs.Waiting.{key_of}
use Rattle.expiry_queue.specs.Links.{IsThere, waiting_in, count}
use Rattle.expiry_queue.proofs.Lists.{not_same}
use Rattle.expiry_queue.proofs.Linked.{count_set, linked_last, stands_kept, there_last}
use Rattle.expiry_queue.proofs.links.link_last.Goals as goal

pub set_after-requires : goal.set_after-requires
set_after-requires c =
    let old = c.args.links.now in
    let node : Node = record { file = c.args.file; since = c.args.since; before = old.last; after = None } in
    let mid : Slab Node = with_value old.nodes c.args.key node in
    let updates : Updates old.nodes mid c.args.key (Some node) = Updates-with_value old.nodes c.args.key node (ap is_some c.requires.there.1) in
    subst (IsThere mid.slots) (sym c.requires.linked.last)
    (there_last mid.slots (waiting_in old) None
    (stands_kept old.nodes.slots mid.slots None (waiting_in old) None (λ k there. updates.others k (not_same key_of k c.args.key (waiting_in old) there c.requires.free)) c.requires.linked.stands))

pub returns-clause-linked : goal.returns-clause-linked
returns-clause-linked c =
    let old = c.args.links.now in
    let node : Node = record { file = c.args.file; since = c.args.since; before = old.last; after = None } in
    let mid : Slab Node = with_value old.nodes c.args.key node in
    let updates : Updates old.nodes mid c.args.key (Some node) = Updates-with_value old.nodes c.args.key node (ap is_some c.requires.there.1) in
    let same : count mid.slots ≡ count old.nodes.slots = count_set old.nodes.slots c.args.key c.requires.there.0 node c.requires.there.1 in
    let kept : count c.set_after.new.nodes.slots ≡ count mid.slots = c.set_after.ensures.count in
    linked_last old (record { nodes = c.set_after.new.nodes; first = c.end_of-links.result; last = Some c.args.key }) mid
    (record { key = c.args.key; file = c.args.file; since = c.args.since }) (waiting_in old) c.requires.linked c.requires.free
    updates.others updates.changed c.set_after.ensures c.end_of-links.ensures refl (omega arith)
