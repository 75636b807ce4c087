use Rattle.std.proofs.Common.{◌≡◌, ◌∙◌, eqb-true, length, sym, vec_len, arith}
use Rattle.wopi_program.proofs.PairLemmas.{parted_all}
use Rattle.wopi_program.proofs.keeping.part_all.Goals as goal

pub returns : goal.returns
returns g c =
    let zero : vec_len c.stores.stores ≡ 0 = eqb-true (vec_len c.stores.stores) 0 (sym c.is_empty.ensures ∙ c.stores-test.false) in
    let none : length c.stores.stores.items ≡ 0 = omega (arith, zero, c.stores.stores.ok.0) in
    parted_all g.G.Sink.held g.G.Log.synced g.G.Sink.write_faults c.args.stores.items c.stores.stores.items c.stores.folders.items c.stores.logs.items none c.stores.invariant.parted
