use Rattle.std.specs.Prelude.{IsSomeAnd}
use Rattle.std.proofs.Common.{rules, IsPermutation, sym, subst, ◌*◌, ◌≤◌, List, vec_capacity}
use Rattle.std.proofs.lemmas.List.Sorted.{IsNonDecreasingBy-from_sort_by_key}
use Rattle.std.specs.List.{AllByRecursion}
use Rattle.std.specs.List.Sorted.{IsNonDecreasingBy}
use Rattle.host_table.specs.declared.journal.Spot.{Spot}
use Rattle.host_core.specs.Value.{InMemory}
use Rattle.host_table.specs.Views.{host_of}
use Rattle.host_table.specs.Passes.{HostView, IsPassOf}
use Rattle.host_table.specs.Close.{IsWhole, Ends}
use Rattle.host_table.specs.Journal.{order_of, merge_of}
use Rattle.host_table.proofs.Leaving.{calls_kept, journal_kept}
use Rattle.host_table.proofs.Journals.{can_close, shards_ends, shards_bases, shards_long, shards_sum, shards_fit, ends_all}
use Rattle.host_table.proofs.closing.end_host.Goals as goal

pub close_all-requires-clause-whole : goal.close_all-requires-clause-whole
close_all-requires-clause-whole g c = can_close c.join_all-seats.result.items _ c.join_all-seats.ensures.joined.free c.join_all-seats.ensures.joined.weights c.requires.whole.weights

pub take_apart-requires-clause-spots : goal.take_apart-requires-clause-spots
take_apart-requires-clause-spots g c =
    let F = g.row.F.Denot in let host = host_of c.host.inside in let e = c.close_all.ensures.ended in
    let room : IsSomeAnd host.limits.calls (λ n. 16 * n ≤ vec_capacity c.args.room.spots) = subst (λ (h : HostView (InMemory F)). IsSomeAnd h.limits.calls (λ n. 16 * n ≤ vec_capacity c.args.room.spots)) (sym c.host.view_is) c.requires.spots.1 in
    let k = calls_kept c.host.inside.most (λ n. 16 * n ≤ vec_capacity c.args.room.spots) room in
    let of = subst (λ (h : HostView (InMemory F)). AllByRecursion (IsPassOf h) c.args.passes.items) (sym c.host.view_is) c.requires.of_host in
    let sums = shards_sum host c.args.passes.items c.join_all-seats.result.items c.close_all.new.shards.items c.args.room.shards.items e.0 c.host.invariant.0 of c.join_all-seats.ensures.joined c.join_all-seats.ensures.locks e.2 c.requires.shards.0 e.1 k.0 k.1 in
    (c.requires.spots.0, subst (λ n. n ≤ vec_capacity c.args.room.spots) (sym sums) k.2)

pub take_apart-requires-clause-few : goal.take_apart-requires-clause-few
take_apart-requires-clause-few g c =
    let F = g.row.F.Denot in let host = host_of c.host.inside in let e = c.close_all.ensures.ended in
    let room : IsSomeAnd host.limits.calls (λ n. 16 * n ≤ vec_capacity c.args.room.spots) = subst (λ (h : HostView (InMemory F)). IsSomeAnd h.limits.calls (λ n. 16 * n ≤ vec_capacity c.args.room.spots)) (sym c.host.view_is) c.requires.spots.1 in
    let k = calls_kept c.host.inside.most (λ n. 16 * n ≤ vec_capacity c.args.room.spots) room in
    let of = subst (λ (h : HostView (InMemory F)). AllByRecursion (IsPassOf h) c.args.passes.items) (sym c.host.view_is) c.requires.of_host in
    shards_fit host c.args.passes.items c.join_all-seats.result.items c.close_all.new.shards.items c.args.room.shards.items e.0 c.host.invariant.0 of c.join_all-seats.ensures.joined c.join_all-seats.ensures.locks e.2 c.requires.shards.0 e.1 k.0 k.1

pub invariant_of-journal : goal.invariant_of-journal
invariant_of-journal g c =
    let F = g.row.F.Denot in let f = g.F.Folder in let host = host_of c.host.inside in let e = c.close_all.ensures.ended in let joined = c.join_all-seats.ensures in
    let room : IsSomeAnd host.limits.calls (λ n. 16 * n ≤ vec_capacity c.args.room.spots) = subst (λ (h : HostView (InMemory F)). IsSomeAnd h.limits.calls (λ n. 16 * n ≤ vec_capacity c.args.room.spots)) (sym c.host.view_is) c.requires.spots.1 in
    let k = calls_kept c.host.inside.most (λ n. 16 * n ≤ vec_capacity c.args.room.spots) room in
    let of = subst (λ (h : HostView (InMemory F)). AllByRecursion (IsPassOf h) c.args.passes.items) (sym c.host.view_is) c.requires.of_host in
    let whole = subst (λ (h : HostView (InMemory F)). IsWhole h.made c.args.passes.items) (sym c.host.view_is) c.requires.whole in
    let sorted = c.sort_unstable_by_key.new.self.items in
    let up : IsNonDecreasingBy order_of sorted = IsNonDecreasingBy-from_sort_by_key order_of sorted c.sort_unstable_by_key.ensures.sorted (λ a r q k. search rules) in
    let moved = subst (λ (spots : List Spot). IsPermutation spots sorted) c.take_apart.ensures.spots c.sort_unstable_by_key.ensures.permutation in
    journal_kept f.files f.faults host k.0 c.close_all.new.shards.items c.take_apart.new.pasts.items c.take_apart.new.folders.items sorted c.host.invariant.0 k.1
    (shards_bases host c.args.passes.items c.join_all-seats.result.items c.close_all.new.shards.items c.args.room.shards.items e.0 c.host.invariant.0 of joined.joined joined.locks e.2 c.requires.shards.0 e.1)
    (shards_sum host c.args.passes.items c.join_all-seats.result.items c.close_all.new.shards.items c.args.room.shards.items e.0 c.host.invariant.0 of joined.joined joined.locks e.2 c.requires.shards.0 e.1 k.0 k.1)
    c.take_apart.ensures.taken moved
    (ends_all f.files f.faults host c.args.passes.items c.join_all-seats.result.items c.close_all.new.shards.items c.take_apart.new.pasts.items c.take_apart.new.folders.items sorted c.host.invariant.0.bases
    (shards_long host c.args.passes.items c.join_all-seats.result.items c.close_all.new.shards.items c.args.room.shards.items e.0 c.host.invariant.0 of joined.joined joined.locks e.2 c.requires.shards.0 e.1)
    of whole joined.joined (shards_ends host c.args.passes.items c.join_all-seats.result.items c.close_all.new.shards.items c.args.room.shards.items e.0 c.host.invariant.0 of joined.joined joined.locks e.2 c.requires.shards.0 e.1)
    c.take_apart.ensures.taken moved up).0

pub returns : goal.returns
returns g c =
    let F = g.row.F.Denot in let f = g.F.Folder in let host = host_of c.host.inside in let e = c.close_all.ensures.ended in let joined = c.join_all-seats.ensures in
    let room : IsSomeAnd host.limits.calls (λ n. 16 * n ≤ vec_capacity c.args.room.spots) = subst (λ (h : HostView (InMemory F)). IsSomeAnd h.limits.calls (λ n. 16 * n ≤ vec_capacity c.args.room.spots)) (sym c.host.view_is) c.requires.spots.1 in
    let k = calls_kept c.host.inside.most (λ n. 16 * n ≤ vec_capacity c.args.room.spots) room in
    let of = subst (λ (h : HostView (InMemory F)). AllByRecursion (IsPassOf h) c.args.passes.items) (sym c.host.view_is) c.requires.of_host in
    let whole = subst (λ (h : HostView (InMemory F)). IsWhole h.made c.args.passes.items) (sym c.host.view_is) c.requires.whole in
    let sorted = c.sort_unstable_by_key.new.self.items in
    let up : IsNonDecreasingBy order_of sorted = IsNonDecreasingBy-from_sort_by_key order_of sorted c.sort_unstable_by_key.ensures.sorted (λ a r q k. search rules) in
    let moved = subst (λ (spots : List Spot). IsPermutation spots sorted) c.take_apart.ensures.spots c.sort_unstable_by_key.ensures.permutation in
    let all = (ends_all f.files f.faults host c.args.passes.items c.join_all-seats.result.items c.close_all.new.shards.items c.take_apart.new.pasts.items c.take_apart.new.folders.items sorted c.host.invariant.0.bases
    (shards_long host c.args.passes.items c.join_all-seats.result.items c.close_all.new.shards.items c.args.room.shards.items e.0 c.host.invariant.0 of joined.joined joined.locks e.2 c.requires.shards.0 e.1)
    of whole joined.joined (shards_ends host c.args.passes.items c.join_all-seats.result.items c.close_all.new.shards.items c.args.room.shards.items e.0 c.host.invariant.0 of joined.joined joined.locks e.2 c.requires.shards.0 e.1)
    c.take_apart.ensures.taken moved up).1 in
    subst (λ (h : HostView (InMemory F)). Ends f.files f.faults h c.args.passes.items (record { opened = host.opened; first = host.first; parts = c.take_apart.new.pasts.items; merge = merge_of c.take_apart.new.pasts.items sorted }) c.take_apart.new.folders.items) c.host.view_is all
