use Rattle.std.proofs.Common.{◌≡◌, ◌+◌, ◌^◌, ◌∷◌, [], ◌++◌, List, length, length-append, sym, ap, ◌∙◌, subst, rules, arith}
use Rattle.turn_lock.specs.Places.{total}
use Rattle.host_table.specs.Passes.{HostView, PassView}
use Rattle.host_table.specs.Close.{weight_of}
use Rattle.wopi_program.specs.Passes.{IsFreshPass, AreReady}
use Rattle.wopi_program.proofs.HostLemmas.{ready_still}
use Rattle.wopi_program.proofs.PassLemmas.{ready_more, weights_append}
use Rattle.wopi_program.proofs.crew.split_all.Goals as goal

pub split_heaviest-given-requires-clause-ready : goal.split_heaviest-given-requires-clause-ready
split_heaviest-given-requires-clause-ready g c =
    let F = g.row.F.Denot in
    let i = c.splits.invariant in
    let first = c.args.host.now in
    subst (λ (h : HostView F). AreReady h 0 c.splits.passes.items) (sym i.host) (ready_still first c.splits.host.made 0 c.splits.passes.items i.ready)

pub splits-preserved : goal.splits-preserved
splits-preserved g c =
    let F = g.row.F.Denot in
    let i = c.splits.invariant in
    let e = c.split_heaviest-given.ensures in
    let first : HostView F = c.args.host.now in
    let made = c.splits.host.made in
    let before = c.split_heaviest-given.new.passes.items in
    let given = c.split_heaviest-given.result in
    let items = c.push_reserved-in-splits.ensures.items in
    let marked : HostView F = record first { made = made } in
    let ready : AreReady first 0 before =
    ready_still marked first.made 0 before (subst (λ (h : HostView F). AreReady h 0 before) i.host e.ready)
    in
    let alone : AreReady first made (given ∷ []) =
    ready_still marked first.made made (given ∷ []) (subst (λ (h : HostView F). AreReady h made (given ∷ [])) i.host (e.given, tt))
    in
    let place : made ≡ length before = i.made ∙ sym e.many in
    let fresh : IsFreshPass first (length before) given = subst (λ n. IsFreshPass first n given) place alone.0 in
    let many : length (before ++ given ∷ []) ≡ length before + 1 = length-append before (given ∷ []) in
    let length_is : length c.push_reserved-in-splits.new.self.items ≡ length before + 1 = ap (λ (l : List (PassView F)). length l) items ∙ many in
    let next : c.split_heaviest-given.new.host.made ≡ made + 1 = ap (λ (h : HostView F). h.made) e.host in
    let sums = weights_append before given in
    let left = length c.remove-room.new.self.items in
    let fewer : left + 1 ≡ length c.splits.rooms.items = search rules in
    let same = e.many in
    let was = i.many in
    let wide = i.room in
    let whole = e.weights in
    let made_is = i.made in
    record {
      some = omega (arith, length_is);
      ready = subst (AreReady first 0) (sym items) (ready_more first before given ready fresh);
      made = omega (arith, next, made_is, same, length_is);
      host = e.host ∙ ap (λ (h : HostView F). record h { made = made + 1 }) i.host ∙ ap (λ n. record first { made = n }) (sym next);
      weights = subst (λ (l : List (PassView F)). total weight_of l ≡ 2 ^ 62) (sym items) (omega (arith, sums, whole));
      many = omega (arith, length_is, same, was, fewer);
      room = omega (arith, wide, e.room, c.push_reserved-in-splits.ensures.capacity);
    }
