use Rattle.std.proofs.Common.{refl}
use Rattle.std.proofs.lemmas.Bool.{false≢true}
use Rattle.host_table.proofs.Wholes.{below_all, all_below, once_each}
use Rattle.host_table.proofs.whole.are_numbered.Goals as goal

pub returns-then-not-are_below : goal.returns-then-not-are_below
returns-then-not-are_below g c = (λ e. absurd (false≢true e), λ all. c.if-not-are_below.ensures.1 (below_all c.args.made c.args.passes.now all))

pub returns : goal.returns
returns g c =
    let below = c.if-not-are_below.ensures.0 refl in
    (λ e. all_below c.args.made c.args.passes.now below (c.are_each_once.ensures.0 e), λ all. c.are_each_once.ensures.1 (once_each c.args.made c.args.passes.now all))
