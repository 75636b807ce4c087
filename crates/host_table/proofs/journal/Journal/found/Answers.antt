use Rattle.std.proofs.Common.{◌≡◌, ◌∙◌, arith, ap, sym, subst, slice_get, None, Some}
use Rattle.host_table.specs.Journal.{JournalView, made_in, found, IsFound}
use Rattle.host_table.proofs.Reading.{found_at, merge_at, merge_none, part_inside, spot_there, spot_past, part_there}
use Rattle.host_table.proofs.journal.Journal.found.Goals as goal

pub index-requires : goal.index-requires
index-requires g c =
    let spot = c.in-Some.spot.now in let parts = c.self.inside.pasts.items in
    let at = spot_there c.deref.result.now c.self.inside.spots.items c.args.place spot c.deref.ensures.value c.in-Some.ensures.lookup.0 c.in-Some.ensures.lookup.1 in
    let is : IsFound (found parts spot) = found_at parts c.self.inside.spots.items c.args.place spot c.self.invariant.found at in
    omega (arith, part_inside parts spot.shard spot.place is, c.from.ensures, c.self.inside.pasts.ok.0)

pub returns-in-None-clause-none : goal.returns-in-None-clause-none
returns-in-None-clause-none g c =
    let parts = c.self.inside.pasts.items in
    let none = merge_none parts c.self.inside.spots.items c.args.place c.self.invariant.found (spot_past c.deref.result.now c.self.inside.spots.items c.args.place c.deref.ensures.value c.in-None.ensures.lookup.0) in
    let P : JournalView g.row.F.Denot → Type 0 = λ j. slice_get j.merge c.args.place ≡ None in
    subst P c.self.view_is none

pub returns-in-Some-clause-some : goal.returns-in-Some-clause-some
returns-in-Some-clause-some g c =
    let F = g.row.F.Denot in
    let spot = c.in-Some.spot.now in let parts = c.self.inside.pasts.items in
    let at = spot_there c.deref.result.now c.self.inside.spots.items c.args.place spot c.deref.ensures.value c.in-Some.ensures.lookup.0 c.in-Some.ensures.lookup.1 in
    let is : IsFound (found parts spot) = found_at parts c.self.inside.spots.items c.args.place spot c.self.invariant.found at in
    let there : slice_get parts spot.shard ≡ Some c.index.result.now = part_there parts spot c.from.result c.index.result.now is c.from.ensures c.index.ensures in
    let same : found parts spot ≡ slice_get c.index.result.now.made c.from-in-Some.result =
    ap (λ o. made_in o spot.place) there ∙ ap (slice_get c.index.result.now.made) (sym c.from-in-Some.ensures) in
    let P : JournalView F → Type 0 = λ j. slice_get c.index.result.now.made c.from-in-Some.result ≡ slice_get j.merge c.args.place in
    subst P c.self.view_is (sym same ∙ sym (merge_at parts c.self.inside.spots.items c.args.place spot c.self.invariant.found at))
