use Rattle.std.proofs.Common.{◌≡◌, ◌+◌, ◌-◌, ◌/◌, ◌^◌, Some, sym, ap, subst, arith}
use Rattle.std.specs.Prelude.{slice_get}
use Rattle.turn_lock.specs.Places.{total}
use Rattle.host_table.specs.Passes.{PassView}
use Rattle.host_table.specs.Close.{weight_of}
use Rattle.wopi_program.specs.Passes.{IsFreshPass}
use Rattle.wopi_program.proofs.PassLemmas.{heavy_weight, ready_given, ready_here, ready_kept, ready_set, there, weights_set}
use Rattle.wopi_program.proofs.crew.split_heaviest.Goals as goal

pub split_into-requires-clause-of_host : goal.split_into-requires-clause-of_host
split_into-requires-clause-of_host g c =
    let passes = c.args.passes.now.items in
    let place = c.heaviest-place.result in
    let pass = c.index_mut.result.now in
    let stands : slice_get passes place ≡ Some pass = there _ passes place pass c.heaviest-place.ensures c.index_mut.ensures.value in
    (ready_here c.args.host.now 0 place passes pass c.requires.ready stands).of_host

pub split_into-requires-clause-weight : goal.split_into-requires-clause-weight
split_into-requires-clause-weight g c =
    let passes = c.args.passes.now.items in
    let place = c.heaviest-place.result in
    let pass = c.index_mut.result.now in
    let stands : slice_get passes place ≡ Some pass = there _ passes place pass c.heaviest-place.ensures c.index_mut.ensures.value in
    heavy_weight passes place pass stands c.heaviest-place.ensures c.requires.some.1 c.requires.weights

pub returns-clause-ready : goal.returns-clause-ready
returns-clause-ready g c =
    let host = c.args.host.now in
    let passes = c.args.passes.now.items in
    let place = c.heaviest-place.result in
    let pass = c.index_mut.result.now in
    let stands : slice_get passes place ≡ Some pass = there _ passes place pass c.heaviest-place.ensures c.index_mut.ensures.value in
    let fresh = ready_here host 0 place passes pass c.requires.ready stands in
    let kept = subst (IsFreshPass host (0 + place)) (sym c.split_into.ensures.kept) (ready_kept host (0 + place) pass fresh) in
    ready_set host 0 place passes c.split_into.new.pass c.requires.ready kept

pub returns-clause-given : goal.returns-clause-given
returns-clause-given g c =
    let host = c.args.host.now in
    let passes = c.args.passes.now.items in
    let place = c.heaviest-place.result in
    let pass = c.index_mut.result.now in
    let stands : slice_get passes place ≡ Some pass = there _ passes place pass c.heaviest-place.ensures c.index_mut.ensures.value in
    let fresh = ready_here host 0 place passes pass c.requires.ready stands in
    subst (IsFreshPass host host.made) (sym c.split_into.ensures.given) (ready_given host (0 + place) host.made pass fresh)

pub returns-clause-weights : goal.returns-clause-weights
returns-clause-weights g c =
    let F = g.row.F.Denot in
    let passes = c.args.passes.now.items in
    let place = c.heaviest-place.result in
    let pass = c.index_mut.result.now in
    let kept = c.split_into.new.pass in
    let given = c.split_into.result in
    let stands : slice_get passes place ≡ Some pass = there _ passes place pass c.heaviest-place.ensures c.index_mut.ensures.value in
    let sums = weights_set passes place pass kept stands in
    let kept_weight : kept.weight ≡ pass.weight - pass.weight / 2 = ap (λ (p : PassView F). p.weight) c.split_into.ensures.kept in
    let given_weight : given.weight ≡ pass.weight / 2 = ap (λ (p : PassView F). p.weight) c.split_into.ensures.given in
    let whole : total weight_of passes ≡ 2 ^ 62 = c.requires.weights in
    omega (arith, sums, kept_weight, given_weight, whole)
