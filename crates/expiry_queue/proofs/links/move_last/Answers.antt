use Rattle.std.proofs.Common.{◌≡◌, ◌+◌, ◌≤◌, ◌++◌, ◌∷◌, [], List, length, is_some, sym, ap, subst, ◌∙◌, arith, length-append}
use Rattle.expiry_queue.specs.Waiting.{Waiting, has_key, without, last_since}
use Rattle.expiry_queue.specs.Links.{waiting_in, count, IsLinked}
use Rattle.expiry_queue.proofs.Lists.{splits, order_push, order_without, free_without, file_without, length_without, last_without, refreshed_is}
use Rattle.expiry_queue.proofs.Linked.{waiting_is, in_order, is_there, cut}
use Rattle.expiry_queue.proofs.links.move_last.Goals as goal

pub index-requires : goal.index-requires
index-requires c = ap is_some (is_there c.args.links.now c.args.key (waiting_in c.args.links.now) c.requires.order.linked c.requires.live).1

pub link_last-requires-clause-linked : goal.link_last-requires-clause-linked
link_last-requires-clause-linked c =
    let is = waiting_is c.unlink.new.links (without c.args.key (waiting_in c.args.links.now)) c.unlink.ensures.linked in
    subst (IsLinked c.unlink.new.links) (sym is) c.unlink.ensures.linked

pub link_last-requires-clause-free : goal.link_last-requires-clause-free
link_last-requires-clause-free c =
    let old = waiting_in c.args.links.now in
    ap (has_key c.args.key) (waiting_is c.unlink.new.links (without c.args.key old) c.unlink.ensures.linked)
    ∙ free_without c.args.key old (splits c.args.key old c.requires.order.linked.keys c.requires.live)

pub link_last-requires-clause-room : goal.link_last-requires-clause-room
link_last-requires-clause-room c =
    let old = waiting_in c.args.links.now in
    let long : length (waiting_in c.unlink.new.links) ≡ length (without c.args.key old) = ap length (waiting_is c.unlink.new.links (without c.args.key old) c.unlink.ensures.linked) in
    let one_less : length old ≡ length (without c.args.key old) + 1 = length_without c.args.key old (splits c.args.key old c.requires.order.linked.keys c.requires.live) in
    let fits : length old ≤ count c.args.links.now.nodes.slots = c.requires.order.linked.fits in
    let same : count c.unlink.new.links.nodes.slots ≡ count c.args.links.now.nodes.slots = c.unlink.ensures.count in
    omega (arith, long, one_less, fits, same)

pub returns-clause-waiting : goal.returns-clause-waiting
returns-clause-waiting c =
    let old = waiting_in c.args.links.now in
    let at = cut c.args.links.now c.args.key c.index.result.now old c.requires.order.linked c.requires.live c.index.ensures in
    waiting_is c.link_last.new.links _ c.link_last.ensures.linked
    ∙ ap (λ (l : List Waiting). l ++ record { key = c.args.key; file = c.index.result.now.file; since = c.args.since } ∷ [])
    (waiting_is c.unlink.new.links (without c.args.key old) c.unlink.ensures.linked)
    ∙ ap (λ n. without c.args.key old ++ record { key = c.args.key; file = n; since = c.args.since } ∷ []) at.file_is
    ∙ sym (refreshed_is c.args.key c.args.since old at.at)

pub returns-clause-order : goal.returns-clause-order
returns-clause-order c =
    let old = waiting_in c.args.links.now in
    let at = cut c.args.links.now c.args.key c.index.result.now old c.requires.order.linked c.requires.live c.index.ensures in
    let rest = without c.args.key old in
    let one : Waiting = record { key = c.args.key; file = at.at.one.file; since = c.args.since } in
    let is = waiting_is c.unlink.new.links rest c.unlink.ensures.linked in
    let named : IsLinked c.link_last.new.links (rest ++ record { key = c.args.key; file = c.index.result.now.file; since = c.args.since } ∷ []) =
    subst (λ (l : List Waiting). IsLinked c.link_last.new.links (l ++ record { key = c.args.key; file = c.index.result.now.file; since = c.args.since } ∷ [])) is c.link_last.ensures.linked in
    let linked : IsLinked c.link_last.new.links (rest ++ one ∷ []) =
    subst (λ n. IsLinked c.link_last.new.links (rest ++ record { key = c.args.key; file = n; since = c.args.since } ∷ [])) at.file_is named in
    let all : count c.args.links.now.nodes.slots ≡ length old = c.requires.order.all in
    let one_less : length old ≡ length rest + 1 = length_without c.args.key old at.at in
    let unlinked : count c.unlink.new.links.nodes.slots ≡ count c.args.links.now.nodes.slots = c.unlink.ensures.count in
    let same : count c.link_last.new.links.nodes.slots ≡ count c.unlink.new.links.nodes.slots = c.link_last.ensures.count in
    let earlier : last_since 0 rest ≤ last_since 0 old = last_without 0 c.args.key old c.requires.order.order.rises in
    let since : last_since 0 old ≤ c.args.since = c.requires.since in
    in_order c.link_last.new.links (rest ++ one ∷ []) linked
    (order_push rest one (order_without c.args.key old c.requires.order.order) (free_without c.args.key old at.at) (file_without c.args.key old at.at c.requires.order.order.files)
    (omega (arith, earlier, since)))
    (omega (arith, all, one_less, unlinked, same, length-append rest (one ∷ [])))
