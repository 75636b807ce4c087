use Rattle.std.proofs.Common.{◌≡◌, length, sym, subst, arith}
use Rattle.std.specs.List.{AllByRecursion}
use Rattle.host_table.specs.Views.{host_of}
use Rattle.host_table.specs.Passes.{HostView, IsPassOf}
use Rattle.host_table.specs.Close.{IsWhole, Leaves}
use Rattle.host_table.proofs.Journals.{can_close, shards_ends, shards_long}
use Rattle.host_table.proofs.Noted.{leaves_all}
use Rattle.host_table.proofs.closing.end_stores.Goals as goal

pub close_all-requires-clause-whole : goal.close_all-requires-clause-whole
close_all-requires-clause-whole g c = can_close c.join_all-seats.result.items _ c.join_all-seats.ensures.joined.free c.join_all-seats.ensures.joined.weights c.requires.whole.weights

pub take_stores-requires : goal.take_stores-requires
take_stores-requires g c =
    let F = g.row.F.Denot in let host = host_of c.host.inside in let e = c.close_all.ensures.ended in let joined = c.join_all-seats.ensures in
    let of = subst (λ (h : HostView F). AllByRecursion (IsPassOf h) c.args.passes.items) (sym c.host.view_is) c.requires.of_host in
    let long : length c.close_all.new.shards.items ≡ 16 = shards_long host c.args.passes.items c.join_all-seats.result.items c.close_all.new.shards.items c.args.shards.items e.0 c.host.invariant.0 of joined.joined joined.locks e.2 c.requires.shards.0 e.1 in
    let whole = c.close_all.new.shards.ok.0 in let room' = c.requires.stores.1 in
    record { room = (c.requires.stores.0, omega (arith, long, whole, room')) }

pub returns : goal.returns
returns g c =
    let F = g.row.F.Denot in let f = g.F.Store in let host = host_of c.host.inside in let e = c.close_all.ensures.ended in let joined = c.join_all-seats.ensures in
    let of = subst (λ (h : HostView F). AllByRecursion (IsPassOf h) c.args.passes.items) (sym c.host.view_is) c.requires.of_host in
    let whole = subst (λ (h : HostView F). IsWhole h.made c.args.passes.items) (sym c.host.view_is) c.requires.whole in
    subst (λ (h : HostView F). Leaves f.files f.faults f.notes h c.args.passes.items c.take_stores.new.stores.items) c.host.view_is
    (leaves_all f.files f.faults f.notes host c.args.passes.items c.join_all-seats.result.items c.close_all.new.shards.items c.take_stores.new.stores.items c.host.invariant.0.bases
    (shards_long host c.args.passes.items c.join_all-seats.result.items c.close_all.new.shards.items c.args.shards.items e.0 c.host.invariant.0 of joined.joined joined.locks e.2 c.requires.shards.0 e.1)
    of whole joined.joined (shards_ends host c.args.passes.items c.join_all-seats.result.items c.close_all.new.shards.items c.args.shards.items e.0 c.host.invariant.0 of joined.joined joined.locks e.2 c.requires.shards.0 e.1)
    c.take_stores.ensures.given)
